-- The ways of Codec, each with its two laws, made into codecs. For a reader: the line of each codec (`field`, `then`, `times`, `along`,
-- `via`, `only`, `fixed`, `ranged`, `counted`) says which values fit and what is written; `enc_each`, `enc_all`, `enc_along`, `TimesFits`,
-- `AlongFits` and `Ranged` are words of these lines. All else are laws, and `there` and `back` cite them.
use Rattle.std.specs.Prelude.{◌≡◌, refl, ℕ, zero, suc, ◌^◌, ◌<◌, Bool, true, false, List, [], ◌∷◌, ◌++◌, length, take, drop, T, leb, eqb}
use Rattle.std.proofs.Common.{sym, ap, ap₂, ◌∙◌, arith, append_assoc, length-append, take-append-drop, leb→le, le→leb, eqb→eq, take_at, drop_at, length-take-le}
use Rattle.std.proofs.Math.Dec.{eqb_refl}
use Rattle.bits.specs.Choice.{pick, within}
use Rattle.bits.specs.ChoiceLaws.{pick_yes}
use Rattle.bits.specs.Lists.{All, Along}
use Rattle.bits.specs.Bits.{Bits, number_of_bits, bits_of_number}
use Rattle.bits.specs.BitsLaws.{length_bits, number_bits, bits_number, number_lt}
use Rattle.bits.specs.Codec.{Read, got, refused, next, Codec, field_dec, then_dec, times_dec, along_dec, via_dec, only_dec}

-- ---- a value was got

-- no refusal is a value
pub not_got {ℓ} : {S A : Type 0} {X : Type ℓ} {e l : ℕ} {a : A} {r : List S} → refused e l ≡ got a r → X
not_got p = let z : ◌≡◌ {A = ℕ} 0 1 = cc in absurd (omega arith)

-- a test that leads to a value passed
pub pick_got : {S A : Type 0} {b : A} {q : List S} (t : Bool) (a : A) (r : List S) (e l : ℕ) → pick t (got a r) (refused e l) ≡ got b q
    → T t × (a ≡ b) × (r ≡ q)
pick_got true a r e l p = (tt, cc, cc)
pick_got false a r e l p = not_got p

-- a step that leads to a value had one
pub next_got : {S A B : Type 0} {P : Type 0} {b : B} {q : List S} (o : Read S A) (f : A → List S → Read S B) → next o f ≡ got b q
    → ((a : A) (r : List S) → o ≡ got a r → f a r ≡ got b q → P) → P
next_got (got a r) f p k = k a r refl p
next_got (refused e l) f p k = not_got p

-- ---- field

module _ (e w : ℕ) where
  pub field_there : (n : ℕ) (r : Bits) → n < 2 ^ w → field_dec e w (bits_of_number w n ++ r) ≡ got n r
  field_there n r h =
      let l : length (bits_of_number w n) ≡ w = length_bits w n in
      pick_yes (leb w (length (bits_of_number w n ++ r))) _ _ (le→leb w _ (simp (length-append, l) (omega arith)))
      ∙ ap₂ got (ap number_of_bits (take_at (bits_of_number w n) r w l) ∙ number_bits w n h) (drop_at (bits_of_number w n) r w l)

  pub field_back : (s : Bits) (n : ℕ) (r : Bits) → field_dec e w s ≡ got n r → (n < 2 ^ w) × (s ≡ bits_of_number w n ++ r)
  field_back s n r p =
      let q = pick_got (leb w (length s)) _ _ e _ p in
      let l : length (take w s) ≡ w = length-take-le w s (leb→le w (length s) q.0) in (
        rw (← q.1) (rw l at (number_lt (take w s))),
        rw (← q.1, ← q.2) (sym (take-append-drop w s) ∙ ap (λ (x : Bits). x ++ drop w s) (sym (rw l at (bits_number (take w s))))),
      )

  abbrev pub field : Codec Bool ℕ
  field = record { Fits = λ n. n < 2 ^ w; enc = bits_of_number w; dec = field_dec e w; there = field_there; back = field_back }

-- ---- then

module _ {S A B : Type 0} (c : Codec S A) (d : A → Codec S B) where
  pub then_there : (p : A × B) (r : List S) → c.Fits p.0 × (d p.0).Fits p.1
      → then_dec c d (c.enc p.0 ++ (d p.0).enc p.1 ++ r) ≡ got p r
  unfolding then_dec
  then_there p r h = rw (append_assoc, c.there, h.0) (rw ((d p.0).there, h.1))

  pub then_back : (s : List S) (p : A × B) (r : List S) → then_dec c d s ≡ got p r
      → (c.Fits p.0 × (d p.0).Fits p.1) × (s ≡ c.enc p.0 ++ (d p.0).enc p.1 ++ r)
  unfolding then_dec
  then_back s p r h =
      next_got (c.dec s) _ h λ a q e h1.
      next_got ((d a).dec q) _ h1 λ b q2 e2 h2.
      let (f, g) = c.back s a q e in
      let (f2, g2) = (d a).back q b q2 e2 in
      let u : (a, b) ≡ p = cc in
      let v : q2 ≡ r = cc in
      rw (← u, ← v) ((f, f2), cc (append_assoc (c.enc a) ((d a).enc b) q2))

  abbrev pub then : Codec S (A × B)
  then =
      record {
        Fits = λ p. c.Fits p.0 × (d p.0).Fits p.1;
        enc = λ p. c.enc p.0 ++ (d p.0).enc p.1;
        dec = then_dec c d;
        there = then_there;
        back = then_back;
      }

-- ---- times

-- what f writes of each, one behind the other
abbrev pub enc_each : {S A : Type 0} → (A → List S) → List A → List S
enc_each f [] = []
enc_each f (x ∷ xs) = f x ++ enc_each f xs

module _ {S A : Type 0} (c : Codec S A) where
  abbrev pub enc_all : List A → List S
  enc_all xs = enc_each c.enc xs

  abbrev pub TimesFits : ℕ → List A → Type 0
  TimesFits n xs = (length xs ≡ n) × All c.Fits xs

  times_list : (xs : List A) (r : List S) → All c.Fits xs → times_dec c (length xs) (enc_all xs ++ r) ≡ got xs r
  times_list [] r h = refl
  times_list (x ∷ xs) r h = rw (append_assoc, c.there, h.0) (rw (times_list xs r h.1))

  pub times_there : (n : ℕ) (xs : List A) (r : List S) → TimesFits n xs → times_dec c n (enc_all xs ++ r) ≡ got xs r
  times_there n xs r h = rw (← h.0) (times_list xs r h.1)

  pub times_back : (n : ℕ) (s : List S) (xs : List A) (r : List S) → times_dec c n s ≡ got xs r → TimesFits n xs × (s ≡ enc_all xs ++ r)
  times_back zero s xs r h =
      let u : [] ≡ xs = cc in
      let v : s ≡ r = cc in
      rw (← u, ← v) ((refl, tt), refl)
  times_back (suc n) s ys r h =
      next_got (c.dec s) _ h λ x q e h1.
      next_got (times_dec c n q) _ h1 λ xs q2 e2 h2.
      let (f, g) = c.back s x q e in
      let ((l, fs), g2) = times_back n q xs q2 e2 in
      let u : (x ∷ xs) ≡ ys = cc in
      let v : q2 ≡ r = cc in
      rw (← u, ← v) ((ap suc l, (f, fs)), cc (append_assoc (c.enc x) (enc_all xs) q2))

  abbrev pub times : ℕ → Codec S (List A)
  times n = record { Fits = TimesFits n; enc = enc_all; dec = times_dec c n; there = times_there n; back = times_back n }

-- ---- along

module _ {S A I : Type 0} (c : I → Codec S A) (m : I → A → I) where
  abbrev pub enc_along : I → List A → List S
  enc_along i [] = []
  enc_along i (x ∷ xs) = (c i).enc x ++ enc_along (m i x) xs

  abbrev pub AlongFits : ℕ → I → List A → Type 0
  AlongFits n i xs = (length xs ≡ n) × Along m (λ j x. (c j).Fits x) i xs

  along_list : (i : I) (xs : List A) (r : List S) → Along m (λ j x. (c j).Fits x) i xs → along_dec c m (length xs) i (enc_along i xs ++ r) ≡ got xs r
  along_list i [] r h = refl
  along_list i (x ∷ xs) r h = rw (append_assoc, (c i).there, h.0) (rw (along_list (m i x) xs r h.1))

  pub along_there : (n : ℕ) (i : I) (xs : List A) (r : List S) → AlongFits n i xs → along_dec c m n i (enc_along i xs ++ r) ≡ got xs r
  along_there n i xs r h = rw (← h.0) (along_list i xs r h.1)

  pub along_back : (n : ℕ) (i : I) (s : List S) (xs : List A) (r : List S) → along_dec c m n i s ≡ got xs r → AlongFits n i xs × (s ≡ enc_along i xs ++ r)
  along_back zero i s xs r h =
      let u : [] ≡ xs = cc in
      let v : s ≡ r = cc in
      rw (← u, ← v) ((refl, tt), refl)
  along_back (suc n) i s ys r h =
      next_got ((c i).dec s) _ h λ x q e h1.
      next_got (along_dec c m n (m i x) q) _ h1 λ xs q2 e2 h2.
      let (f, g) = (c i).back s x q e in
      let ((l, fs), g2) = along_back n (m i x) q xs q2 e2 in
      let u : (x ∷ xs) ≡ ys = cc in
      let v : q2 ≡ r = cc in
      rw (← u, ← v) ((ap suc l, (f, fs)), cc (append_assoc ((c i).enc x) (enc_along (m i x) xs) q2))

  abbrev pub along : ℕ → I → Codec S (List A)
  along n i = record { Fits = AlongFits n i; enc = enc_along i; dec = along_dec c m n i; there = along_there n i; back = along_back n i }

-- ---- via: values of another type; F says which of them fit

-- what allows it: the values of A that P lets through and those of B that F does go over into each other, by f and g
pub record Matches {A B : Type 0} (P : A → Type 0) (f : A → B) (g : B → A) (F : B → Type 0) : Type 0 where
  pub fits : (b : B) → F b → P (g b)
  pub same : (b : B) → F b → f (g b) ≡ b
  pub allowed : (a : A) → P a → F (f a)
  pub again : (a : A) → P a → g (f a) ≡ a

module _ {S A B : Type 0} (c : Codec S A) (f : A → B) (g : B → A) (F : B → Type 0) (m : Matches c.Fits f g F) where
  pub via_there : (b : B) (r : List S) → F b → via_dec c f (c.enc (g b) ++ r) ≡ got b r
  unfolding via_dec
  via_there b r h = rw (c.there (g b) r (m.fits b h), m.same b h)

  pub via_back : (s : List S) (b : B) (r : List S) → via_dec c f s ≡ got b r → F b × (s ≡ c.enc (g b) ++ r)
  unfolding via_dec
  via_back s b r h =
      next_got (c.dec s) _ h λ a q e h1.
      let (k, l) = c.back s a q e in
      let u : f a ≡ b = cc in
      let v : q ≡ r = cc in
      rw (← u, ← v) (m.allowed a k, rw (m.again a k) l)

  abbrev pub via : Codec S B
  via = record { Fits = F; enc = λ b. c.enc (g b); dec = via_dec c f; there = via_there; back = via_back }

-- ---- only

module _ {S A : Type 0} (c : Codec S A) (e : ℕ) (t : A → Bool) where
  pub only_there : (a : A) (r : List S) → c.Fits a × T (t a) → only_dec c e t (c.enc a ++ r) ≡ got a r
  unfolding only_dec
  only_there a r h = rw (c.there a r h.0) (pick_yes (t a) _ _ h.1)

  pub only_back : (s : List S) (a : A) (r : List S) → only_dec c e t s ≡ got a r → (c.Fits a × T (t a)) × (s ≡ c.enc a ++ r)
  unfolding only_dec
  only_back s a r h =
      next_got (c.dec s) _ h λ b q k h1.
      let (x, y, z) = pick_got (t b) b q e _ h1 in
      let (f, g) = c.back s b q k in
      rw (← y, ← z) ((f, x), g)

  abbrev pub only : Codec S A
  only = record { Fits = λ a. c.Fits a × T (t a); enc = c.enc; dec = only_dec c e t; there = only_there; back = only_back }

-- ---- numbers with a rule, and a count

pub fixed_matches : (e w v : ℕ) → Matches {B = Unit {0}} (only (field e w) e (eqb v)).Fits (λ n. tt) (λ u. v) (λ u. v < 2 ^ w)
fixed_matches e w v =
    record {
      fits = λ u h. (h, eqb_refl v);
      same = λ u h. refl;
      allowed = λ n h. rw (eqb→eq v n h.1) h.0;
      again = λ n h. eqb→eq v n h.1;
    }

-- a number that must be v
abbrev pub fixed : (e w v : ℕ) → Codec Bool (Unit {0})
fixed e w v = via (only (field e w) e (eqb v)) (λ n. tt) (λ u. v) (λ u. v < 2 ^ w) (fixed_matches e w v)

-- a number of w bits from low to high
abbrev pub Ranged : (w low high n : ℕ) → Type 0
Ranged w low high n = (n < 2 ^ w) × T (within low high n)

abbrev pub ranged : (e w low high : ℕ) → Codec Bool ℕ
ranged e w low high = only (field e w) e (within low high)

pub counted_matches : {S A : Type 0} (n : Codec S ℕ) (c : Codec S A)
    → Matches (then n (times c)).Fits (λ p. p.1) (λ xs. (length xs, xs)) (λ xs. n.Fits (length xs) × All c.Fits xs)
counted_matches n c =
    record {
      fits = λ xs h. (h.0, (refl, h.1));
      same = λ xs h. refl;
      allowed = λ p h. (rw h.1.0 h.0, h.1.1);
      again = λ p h. λ i. (h.1.0 i, p.1);
    }

-- a count, then that many
abbrev pub counted : {S A : Type 0} → Codec S ℕ → Codec S A → Codec S (List A)
counted n c = via (then n (times c)) (λ p. p.1) (λ xs. (length xs, xs)) (λ xs. n.Fits (length xs) × All c.Fits xs) (counted_matches n c)
