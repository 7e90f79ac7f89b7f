-- Blocks of values. For a reader: the lines of `many`, `ended`, `maybe`, `fill` say which values fit and what is written. All else are
-- laws.
use Rattle.std.specs.Prelude.{◌≡◌, refl, Bool, true, false, not, T}
use Rattle.std.proofs.Math.Path.{sym, ap}
use Rattle.std.proofs.Common.{◌∙◌, arith, length-append}
use Prim.Native.Nat.{ℕ, zero, suc, ◌+◌, ◌%◌, ◌≤◌, ◌<◌}
use Rattle.std.proofs.Math.Option.{Option, none, some}
use mathlib.Core.List.{List, [], ◌∷◌, ◌++◌, append_assoc}
use Rattle.std.proofs.Math.ListN.{length, length-replicate}
use Rattle.std.proofs.Math.Facts.{ltb_yes, yes_ltb, no_ltb}
use Rattle.bits.specs.ChoiceLaws.{pick_yes, pick_no, pick_split}
use Rattle.bits.specs.Lists.{All}
use Rattle.bits.specs.Bits.{Bits, zeros, pad, filled}
use Rattle.bits.specs.BitsLaws.{pad_lt, pad_is, filled_bytes}
use Rattle.bits.specs.Codec.{got, refused, next, Codec}
use Rattle.bits.specs.CodecLaws.{not_got, pick_got, next_got, enc_all}
use Rattle.bits.specs.Block.{Block, few, zeros_dec, many_dec, ended_dec, maybe_dec, fill_dec}

-- ---- few

pub few_yes : (n : ℕ) → n < 8 → T (few n)
few_yes n h = yes_ltb {a = n} (omega arith)

pub few_no : (n : ℕ) → 8 ≤ n → T (not (few n))
few_no n h = no_ltb {a = n} (omega arith)

pub few_lt : (n : ℕ) → T (few n) → n < 8
few_lt n t = let h = ltb_yes {a = n} t in omega arith

-- ---- zeros

pub zeros_there : (e n : ℕ) → zeros_dec e (zeros n) ≡ got tt []
zeros_there e zero = refl
zeros_there e (suc n) = zeros_there e n

pub zeros_back : (e : ℕ) (s : Bits) {u : Unit {0}} {r : Bits} → zeros_dec e s ≡ got u r → (s ≡ zeros (length s)) × (r ≡ [])
zeros_back e [] p = (refl, cc)
zeros_back e (false ∷ s) p = let (a, b) = zeros_back e s p in (ap (λ (r : Bits). false ∷ r) a, b)
zeros_back e (true ∷ s) p = not_got p

-- ---- many

pub record ManyFits {A : Type 0} (c : Codec Bool A) (n : ℕ) (xs : List A) : Type 0 where
  pub most : length xs ≤ n
  pub all : All c.Fits xs

module _ {A : Type 0} (c : Codec Bool A) (bad over : ℕ) where
  many_end : (n k : ℕ) → k < 8 → many_dec c bad over n (zeros k) ≡ got [] []
  many_end zero k h = pick_yes (few (length (zeros k))) _ _ (few_yes (length (zeros k)) (simp length-replicate h)) ∙ rw (zeros_there bad k)
  many_end (suc n) k h = pick_yes (few (length (zeros k))) _ _ (few_yes (length (zeros k)) (simp length-replicate h)) ∙ rw (zeros_there bad k)

  -- where no more values may come and eight bits or more are left, that is the refusal, whatever they are
  pub many_over : (s : Bits) → 8 ≤ length s → many_dec c bad over 0 s ≡ refused over (length s)
  many_over s h = pick_no (few (length s)) _ _ (few_no (length s) h)

  pub many_to : (long : (x : A) → 8 ≤ length (c.enc x)) (n k : ℕ) (xs : List A) → k < 8 → length xs ≤ n → All c.Fits xs
      → many_dec c bad over n (enc_all c xs ++ zeros k) ≡ got xs []
  many_to long n k [] h l f = many_end n k h
  many_to long zero k (x ∷ xs) h l f = absurd (omega arith)
  many_to long (suc n) k (x ∷ xs) h l f =
      let far : 8 ≤ length (c.enc x ++ enc_all c xs ++ zeros k) = simp length-append (omega (arith, long x)) in
      pick_no (few (length (c.enc x ++ enc_all c xs ++ zeros k))) _ _ (few_no _ far)
      ∙ rw (append_assoc, c.there, f.0) (rw (many_to long n k xs h (omega arith) f.1))

  -- what is read: the values written, then fewer than eight zero bits; and nothing is left
  pub record Read_many (n : ℕ) (s : Bits) (xs : List A) (r : Bits) : Type 0 where
    pub fits : ManyFits c n xs
    pub left : ℕ
    pub few : left < 8
    pub is : s ≡ enc_all c xs ++ zeros left
    pub none : r ≡ []

  many_last : (n : ℕ) (s : Bits) (ys : List A) (r : Bits) → T (few (length s)) → next (zeros_dec bad s) (λ u q. got [] q) ≡ got ys r → Read_many n s ys r
  many_last n s ys r t e =
      next_got (zeros_dec bad s) _ e λ v q z h1.
      let u : [] ≡ ys = cc in
      let w : q ≡ r = cc in
      rw (← u) (record { fits = record { most = omega arith; all = tt }; left = length s; few = few_lt (length s) t; is = (zeros_back bad s z).0; none = sym w ∙ (zeros_back bad s z).1 })

  pub many_from : (n : ℕ) (s : Bits) (xs : List A) (r : Bits) → many_dec c bad over n s ≡ got xs r → Read_many n s xs r
  many_from zero s ys r p = pick_split (few (length s)) _ _ p (λ t e. many_last zero s ys r t e) (λ t e. not_got e)
  many_from (suc n) s ys r p =
      pick_split (few (length s)) _ _ p (λ t e. many_last (suc n) s ys r t e)
      (λ t e. next_got (c.dec s) _ e λ x q e1 h1.
      next_got (many_dec c bad over n q) _ h1 λ xs v e2 h2.
      let u : (x ∷ xs) ≡ ys = cc in
      let w : v ≡ r = cc in
      let (f, g) = c.back s x q e1 in
      let m = many_from n q xs v e2 in
      rw (← u) (record {
        fits = record { most = omega (arith, m.fits.most); all = (f, m.fits.all) };
        left = m.left;
        few = m.few;
        is = cc (append_assoc (c.enc x) (enc_all c xs) (zeros m.left));
        none = sym w ∙ m.none;
      }))

module _ {A : Type 0} (c : Codec Bool A) (bad over n : ℕ) (long : (x : A) → 8 ≤ length (c.enc x)) where
  pub many_there : (xs : List A) → ManyFits c n xs → many_dec c bad over n (filled (enc_all c xs)) ≡ got xs []
  many_there xs h = many_to c bad over long n (pad (length (enc_all c xs))) xs (pad_lt (length (enc_all c xs))) h.most h.all

  pub many_back : (s : Bits) (xs : List A) → length s % 8 ≡ 0 → many_dec c bad over n s ≡ got xs [] → ManyFits c n xs × (s ≡ filled (enc_all c xs))
  many_back s xs l p =
      let m = many_from c bad over n s xs [] p in
      let z : length (enc_all c xs) + m.left ≡ length s = sym (ap length m.is ∙ simp (length-append, length-replicate)) in
      let q : m.left ≡ pad (length (enc_all c xs)) = pad_is (length (enc_all c xs)) m.left m.few (rw z l) in
      (m.fits, rw (← q) m.is)

  abbrev pub many : Block (List A)
  many =
      record {
        Fits = ManyFits c n;
        enc = λ xs. filled (enc_all c xs);
        dec = many_dec c bad over n;
        bytes = λ xs. filled_bytes (enc_all c xs);
        there = many_there;
        back = many_back;
        all = λ s xs r p. (many_from c bad over n s xs r p).none;
      }

-- ---- ended

module _ {A : Type 0} (c : Codec Bool A) (bad : ℕ) where
  pub ended_there : (a : A) → c.Fits a → ended_dec c bad (filled (c.enc a)) ≡ got a []
  unfolding ended_dec
  ended_there a h =
      let k : ℕ = pad (length (c.enc a)) in
      let u : length (zeros k) < 8 = simp length-replicate (pad_lt (length (c.enc a))) in
      rw (c.there a (zeros k) h, zeros_there bad k) (pick_yes (few (length (zeros k))) _ _ (few_yes (length (zeros k)) u))

  pub ended_back : (s : Bits) (a : A) → length s % 8 ≡ 0 → ended_dec c bad s ≡ got a [] → c.Fits a × (s ≡ filled (c.enc a))
  unfolding ended_dec
  ended_back s a l p =
      next_got (c.dec s) _ p λ b r e h.
      next_got (zeros_dec bad r) _ h λ v y zr h2.
      let (t, u, w) = pick_got (few (length r)) b [] bad _ h2 in
      let (f, g) = c.back s b r e in
      let z : length (c.enc b) + length r ≡ length s = sym (ap length g ∙ simp length-append) in
      let q : length r ≡ pad (length (c.enc b)) = pad_is (length (c.enc b)) (length r) (few_lt (length r) t) (rw z l) in
      rw (← u) (f, g ∙ ap (λ (x : Bits). c.enc b ++ x) ((zeros_back bad r zr).0 ∙ ap zeros q))

  pub ended_all : (s : Bits) (a : A) (r : Bits) → ended_dec c bad s ≡ got a r → r ≡ []
  unfolding ended_dec
  ended_all s a r p = next_got (c.dec s) _ p λ b q e h. next_got (zeros_dec bad q) _ h λ u v z k. sym (pick_got (few (length q)) b [] bad _ k).2

  abbrev pub ended : Block A
  ended =
      record {
        Fits = c.Fits;
        enc = λ a. filled (c.enc a);
        dec = ended_dec c bad;
        bytes = λ a. filled_bytes (c.enc a);
        there = ended_there;
        back = ended_back;
        all = ended_all;
      }

-- ---- maybe

module _ {A : Type 0} (w : Block A) where
  abbrev pub maybe_enc : Option A → Bits
  maybe_enc none = []
  maybe_enc (some a) = w.enc a

  abbrev pub MaybeFits : Option A → Type 0
  MaybeFits none = Unit {0}
  MaybeFits (some a) = w.Fits a

  pub maybe_bytes : (o : Option A) → length (maybe_enc o) % 8 ≡ 0
  maybe_bytes none = refl
  maybe_bytes (some a) = w.bytes a

  pub maybe_back : (s : Bits) (o : Option A) → length s % 8 ≡ 0 → maybe_dec w s ≡ got o [] → MaybeFits o × (s ≡ maybe_enc o)
  maybe_back [] o l p = let u : none ≡ o = cc in rw (← u) (tt, refl)
  maybe_back (b ∷ s) o l p =
      next_got (w.dec (b ∷ s)) _ p λ a r e h.
      let u : some a ≡ o = cc in
      let v : r ≡ [] = cc in
      rw (← u) (w.back (b ∷ s) a l (e ∙ ap (got a) v))

  pub maybe_all : (s : Bits) (o : Option A) (r : Bits) → maybe_dec w s ≡ got o r → r ≡ []
  maybe_all [] o r p = let u : [] ≡ r = cc in sym u
  maybe_all (b ∷ s) o r p = next_got (w.dec (b ∷ s)) _ p λ a q e h. let v : q ≡ r = cc in sym v ∙ w.all (b ∷ s) a q e

module _ {A : Type 0} (w : Block A) (some_bits : (a : A) → 0 < length (w.enc a)) where
  pub maybe_there : (o : Option A) → MaybeFits w o → maybe_dec w (maybe_enc w o) ≡ got o []
  maybe_there none h = refl
  maybe_there (some a) h = go (w.enc a) (some_bits a) (w.there a h)
    where
      go : (s : Bits) → 0 < length s → w.dec s ≡ got a [] → maybe_dec w s ≡ got (some a) []
      go [] l p = absurd (omega arith)
      go (b ∷ s) l p = rw p

  abbrev pub maybe : Block (Option A)
  maybe =
      record { Fits = MaybeFits w; enc = maybe_enc w; dec = maybe_dec w; bytes = maybe_bytes w; there = maybe_there; back = maybe_back w; all = maybe_all w }

-- ---- fill

pub fill_more : {A : Type 0} (c : Codec Bool A) (e n : ℕ) (s : Bits) → 0 < length s → fill_dec c e (suc n) s ≡ next (c.dec s) (λ x r. next (fill_dec c e n r) (λ xs q. got (x ∷ xs) q))
fill_more c e n [] l = absurd (omega arith)
fill_more c e n (b ∷ s) l = refl

module _ {A : Type 0} (c : Codec Bool A) (e : ℕ) (some_bits : (a : A) → 0 < length (c.enc a)) (whole : (a : A) → length (c.enc a) % 8 ≡ 0) where
  pub fill_to : (n : ℕ) (xs : List A) → length xs ≤ n → All c.Fits xs → fill_dec c e n (enc_all c xs) ≡ got xs []
  fill_to zero [] l h = refl
  fill_to (suc n) [] l h = refl
  fill_to zero (x ∷ xs) l h = absurd (omega arith)
  fill_to (suc n) (x ∷ xs) l h =
      let k : 0 < length (c.enc x ++ enc_all c xs) = simp length-append (omega (arith, some_bits x)) in
      fill_more c e n (c.enc x ++ enc_all c xs) k ∙ rw (c.there x (enc_all c xs) h.0, fill_to n xs (omega arith) h.1)

  fill_nil : (xs : List A) (r q : Bits) → got [] q ≡ got xs r → All c.Fits xs × (enc_all c xs ≡ []) × (r ≡ q)
  fill_nil xs r q p =
      let u : [] ≡ xs = cc in
      let v : q ≡ r = cc in
      rw (← u, ← v) (tt, refl, refl)

  pub fill_from : (n : ℕ) (s : Bits) (xs : List A) (r : Bits) → fill_dec c e n s ≡ got xs r → All c.Fits xs × (s ≡ enc_all c xs) × (r ≡ [])
  fill_from zero [] xs r p = let (a, b, z) = fill_nil xs r [] p in (a, sym b, z)
  fill_from (suc n) [] xs r p = let (a, b, z) = fill_nil xs r [] p in (a, sym b, z)
  fill_from zero (b ∷ s) xs r p = not_got p
  fill_from (suc n) (b ∷ s) ys r p =
      next_got (c.dec (b ∷ s)) _ p λ x q d h1.
      next_got (fill_dec c e n q) _ h1 λ xs u d2 h2.
      let (f, g) = c.back (b ∷ s) x q d in
      let (fs, g2, z) = fill_from n q xs u d2 in
      let y : (x ∷ xs) ≡ ys = cc in
      let w : u ≡ r = cc in
      rw (← y, ← w) ((f, fs), cc, z)

  pub fill_bytes : (xs : List A) → length (enc_all c xs) % 8 ≡ 0
  fill_bytes [] = refl
  fill_bytes (x ∷ xs) = simp length-append (omega (arith, whole x, fill_bytes xs))

  pub fill_long : (xs : List A) → length xs ≤ length (enc_all c xs)
  fill_long [] = omega arith
  fill_long (x ∷ xs) = simp length-append (omega (arith, some_bits x, fill_long xs))

  abbrev pub fill : Block (List A)
  fill =
      record {
        Fits = All c.Fits;
        enc = enc_all c;
        dec = λ s. fill_dec c e (length s) s;
        bytes = fill_bytes;
        there = λ xs h. fill_to (length (enc_all c xs)) xs (fill_long xs) h;
        back = λ s xs l p. let (a, b, z) = fill_from (length s) s xs [] p in (a, b);
        all = λ s xs r p. (fill_from (length s) s xs r p).2;
      }
