-- The ways of Before, each with its laws: a list up to a stop, a value behind a mark, several in a row, and blocks made of them.
use Rattle.std.specs.Prelude.{◌≡◌, refl, Bool, not, T}
use Rattle.std.proofs.Math.Path.{sym, ap}
use Rattle.std.proofs.Common.{◌∙◌, arith, length-append}
use Prim.Native.Nat.{ℕ, zero, suc, ◌+◌, ◌%◌, ◌≤◌, ◌<◌}
use mathlib.Core.List.{List, [], ◌∷◌, ◌++◌, append_assoc}
use Rattle.std.proofs.Math.ListN.{length, length-replicate}
use Rattle.bits.specs.ChoiceLaws.{pick_yes, pick_no, pick_split}
use Rattle.bits.specs.Lists.{All}
use Rattle.bits.specs.Bits.{Bits, zeros, pad, filled}
use Rattle.bits.specs.BitsLaws.{pad_lt, pad_is, filled_bytes}
use Rattle.bits.specs.Codec.{got, Codec}
use Rattle.bits.specs.CodecLaws.{not_got, pick_got, next_got, enc_each, enc_all}
use Rattle.bits.specs.Block.{Block, few, zeros_dec}
use Rattle.bits.proofs.BlockLaws.{few_yes, few_lt, zeros_there, zeros_back}
use Rattle.pores_elements.specs.Before.{Before, until_dec, marked_dec, row_dec, closed_dec}

-- ---- until: stop holds where no value starts, and each value has a bit

module _ {A : Type 0} (c : Codec Bool A) (stop : Bits → Bool) (bad : ℕ) where
  until_end : (s : Bits) (ys : List A) (r : Bits) → got [] s ≡ got ys r → All c.Fits ys × (s ≡ enc_all c ys ++ r)
  until_end s ys r p =
      let u : [] ≡ ys = cc in
      let v : s ≡ r = cc in
      rw (← u, ← v) (tt, refl)

  pub until_back : (n : ℕ) (s : Bits) (xs : List A) (r : Bits) → until_dec c stop bad n s ≡ got xs r → All c.Fits xs × (s ≡ enc_all c xs ++ r)
  until_back zero s ys r p = pick_split (stop s) _ _ p (λ t e. until_end s ys r e) (λ t e. not_got e)
  until_back (suc n) s ys r p =
      pick_split (stop s) _ _ p (λ t e. until_end s ys r e)
      (λ t e. next_got (c.dec s) _ e λ x q e1 h1.
      next_got (until_dec c stop bad n q) _ h1 λ xs v e2 h2.
      let (f, g) = c.back s x q e1 in
      let (fs, g2) = until_back n q xs v e2 in
      let u : (x ∷ xs) ≡ ys = cc in
      let w : v ≡ r = cc in
      rw (← u, ← w) ((f, fs), cc (append_assoc (c.enc x) (enc_all c xs) v)))

module _ {A : Type 0} (c : Codec Bool A) (stop : Bits → Bool) (bad : ℕ)
    (some_bits : (x : A) → c.Fits x → 0 < length (c.enc x)) (goes : (x : A) (r : Bits) → c.Fits x → T (not (stop (c.enc x ++ r)))) where
  pub until_there : (n : ℕ) (xs : List A) (r : Bits) → length xs ≤ n → All c.Fits xs → T (stop r)
      → until_dec c stop bad n (enc_all c xs ++ r) ≡ got xs r
  until_there zero [] r l h t = pick_yes (stop r) _ _ t
  until_there (suc n) [] r l h t = pick_yes (stop r) _ _ t
  until_there zero (x ∷ xs) r l h t = absurd (omega arith)
  until_there (suc n) (x ∷ xs) r l h t =
      pick_no (stop ((c.enc x ++ enc_all c xs) ++ r)) _ _ (rw append_assoc (goes x (enc_all c xs ++ r) h.0))
      ∙ rw (append_assoc, c.there, h.0) (rw (until_there n xs r (omega arith) h.1 t))

  pub until_long : (xs : List A) → All c.Fits xs → length xs ≤ length (enc_all c xs)
  until_long [] h = omega arith
  until_long (x ∷ xs) h = simp length-append (omega (arith, some_bits x h.0, until_long xs h.1))

  abbrev pub until : Before stop (List A)
  until =
      record {
        Fits = All c.Fits;
        enc = enc_all c;
        dec = λ s. until_dec c stop bad (length s) s;
        there = λ xs r h t. until_there (length (enc_all c xs ++ r)) xs r (simp length-append (omega (arith, until_long xs h))) h t;
        back = λ s xs r p. until_back c stop bad (length s) s xs r p;
      }

-- ---- marked

module _ {A : Type 0} {stop : Bits → Bool} (m : Codec Bool (Unit {0})) (b : Before stop A) (right : m.Fits tt) where
  pub marked_there : (a : A) (r : Bits) → b.Fits a → T (stop r) → marked_dec m b ((m.enc tt ++ b.enc a) ++ r) ≡ got a r
  unfolding marked_dec
  marked_there a r h t = rw (append_assoc, m.there tt (b.enc a ++ r) right) (b.there a r h t)

  pub marked_back : (s : Bits) (a : A) (r : Bits) → marked_dec m b s ≡ got a r → b.Fits a × (s ≡ (m.enc tt ++ b.enc a) ++ r)
  unfolding marked_dec
  marked_back s a r h =
      next_got (m.dec s) _ h λ u q e h1.
      let (f, g) = m.back s u q e in
      let (f2, g2) = b.back q a r h1 in
      (f2, g ∙ ap (λ (x : Bits). m.enc tt ++ x) g2 ∙ sym (append_assoc (m.enc tt) (b.enc a) r))

  abbrev pub marked : Before stop A
  marked = record { Fits = b.Fits; enc = λ a. m.enc tt ++ b.enc a; dec = marked_dec m b; there = marked_there; back = marked_back }

-- ---- row: each value stops the one before it

module _ {A : Type 0} {stop : Bits → Bool} (b : Before stop A) where
  abbrev pub row_enc : List A → Bits
  row_enc xs = enc_each b.enc xs

  abbrev pub RowFits : ℕ → List A → Type 0
  RowFits n xs = (length xs ≡ n) × All b.Fits xs

  pub row_back : (n : ℕ) (s : Bits) (xs : List A) (r : Bits) → row_dec b n s ≡ got xs r → RowFits n xs × (s ≡ row_enc xs ++ r)
  row_back zero s xs r h =
      let u : [] ≡ xs = cc in
      let v : s ≡ r = cc in
      rw (← u, ← v) ((refl, tt), refl)
  row_back (suc n) s ys r h =
      next_got (b.dec s) _ h λ x q e h1.
      next_got (row_dec b n q) _ h1 λ xs q2 e2 h2.
      let (f, g) = b.back s x q e in
      let ((l, fs), g2) = row_back n q xs q2 e2 in
      let u : (x ∷ xs) ≡ ys = cc in
      let v : q2 ≡ r = cc in
      rw (← u, ← v) ((ap suc l, (f, fs)), cc (append_assoc (b.enc x) (row_enc xs) q2))

module _ {A : Type 0} {stop : Bits → Bool} (b : Before stop A) (stops : (x : A) (r : Bits) → T (stop (b.enc x ++ r))) where
  pub row_stops : (xs : List A) (r : Bits) → T (stop r) → T (stop (row_enc b xs ++ r))
  row_stops [] r t = t
  row_stops (x ∷ xs) r t = rw append_assoc (stops x (row_enc b xs ++ r))

  row_list : (xs : List A) (r : Bits) → All b.Fits xs → T (stop r) → row_dec b (length xs) (row_enc b xs ++ r) ≡ got xs r
  row_list [] r h t = refl
  row_list (x ∷ xs) r h t = rw (append_assoc, b.there x (row_enc b xs ++ r) h.0 (row_stops xs r t)) (rw (row_list xs r h.1 t))

  pub row_there : (n : ℕ) (xs : List A) (r : Bits) → RowFits b n xs → T (stop r) → row_dec b n (row_enc b xs ++ r) ≡ got xs r
  row_there n xs r h t = rw (← h.0) (row_list xs r h.1 t)

  abbrev pub row : ℕ → Before stop (List A)
  row n = record { Fits = RowFits b n; enc = row_enc b; dec = row_dec b n; there = row_there n; back = row_back b n }

-- ---- closed: padding stops the value

module _ {A : Type 0} {stop : Bits → Bool} (b : Before stop A) (bad : ℕ) (stops : (k : ℕ) → T (stop (zeros k))) where
  pub closed_there : (a : A) → b.Fits a → closed_dec b bad (filled (b.enc a)) ≡ got a []
  unfolding closed_dec
  closed_there a h =
      let k : ℕ = pad (length (b.enc a)) in
      let u : length (zeros k) < 8 = simp length-replicate (pad_lt (length (b.enc a))) in
      rw (b.there a (zeros k) h (stops k), zeros_there bad k) (pick_yes (few (length (zeros k))) _ _ (few_yes (length (zeros k)) u))

  pub closed_back : (s : Bits) (a : A) → length s % 8 ≡ 0 → closed_dec b bad s ≡ got a [] → b.Fits a × (s ≡ filled (b.enc a))
  unfolding closed_dec
  closed_back s a l p =
      next_got (b.dec s) _ p λ x r e h.
      next_got (zeros_dec bad r) _ h λ v y zr h2.
      let (t, u, w) = pick_got (few (length r)) x [] bad _ h2 in
      let (f, g) = b.back s x r e in
      let z : length (b.enc x) + length r ≡ length s = sym (ap length g ∙ simp length-append) in
      let q : length r ≡ pad (length (b.enc x)) = pad_is (length (b.enc x)) (length r) (few_lt (length r) t) (rw z l) in
      rw (← u) (f, g ∙ ap (λ (d : Bits). b.enc x ++ d) ((zeros_back bad r zr).0 ∙ ap zeros q))

  pub closed_all : (s : Bits) (a : A) (r : Bits) → closed_dec b bad s ≡ got a r → r ≡ []
  unfolding closed_dec
  closed_all s a r p = next_got (b.dec s) _ p λ x q e h. next_got (zeros_dec bad q) _ h λ u v z k. sym (pick_got (few (length q)) x [] bad _ k).2

  abbrev pub closed : Block A
  closed =
      record {
        Fits = b.Fits;
        enc = λ a. filled (b.enc a);
        dec = closed_dec b bad;
        bytes = λ a. filled_bytes (b.enc a);
        there = closed_there;
        back = closed_back;
        all = closed_all;
      }
