-- The laws of loops that read: the answer from here on is the whole answer, for values that follow each other along, that fill a
-- block, and for zero bits.
use mathlib.Core.Path.{◌≡◌, refl, sym, ap, ◌∙◌}
use Prim.Native.Nat.{ℕ, zero, suc, ◌+◌, ◌-◌, ◌*◌, ◌/◌, ◌%◌, ◌^◌, ◌≤◌, ◌<◌}
use native.Mathlib.Omega.{arith}
use native.Mathlib.Nat.{add-mul, div-eq_of_lt, mod-eq_of_lt}
use mathlib.Core.Bool.{Bool, true, false}
use mathlib.Core.List.{List, [], ◌∷◌, ◌++◌}
use lib.ListN.{length, take, drop, length-drop}
use lib.Pow.{pow_pos}
use lib.Seq.{take-add, take-take, drop_at, length-take-le}
use Rattle.bits.specs.ChoiceLaws.{pick_yes, pick_no}
use Rattle.bits.specs.Bits.{Bits, number_of_bits}
use Rattle.bits.specs.Codec.{Read, got, refused, next, Codec, field_dec, along_dec}
use Rattle.bits.specs.CodecLaws.{field}
use Rattle.bits.specs.Block.{few, zeros_dec, many_dec, fill_dec}
use Rattle.bits.proofs.BlockLaws.{few_yes, few_no, many_over, fill_more}
use Rattle.bits.specs.Lists.{total}
use Rattle.bits.specs.Reads.{keeping, summed, tallied}
use Rattle.bits.proofs.Laws.Reads.{first_field, field_got}
use Rattle.bits.proofs.Laws.Place.{number_take, number_drop, number_small}

-- ---- what is kept of values, of which the first is read

pub keeping_same : {S A B : Type 0} (f g : A → B) (o : Read S A) → ((a : A) → f a ≡ g a) → keeping f o ≡ keeping g o
keeping_same f g (got a r) h = ap (λ (b : _). got b r) (h a)
keeping_same f g (refused e l) h = refl

pub keeping_none : {S A : Type 0} (o : Read S (List A)) → keeping (λ xs. [] ++ xs) o ≡ o
keeping_none (got xs r) = refl
keeping_none (refused e l) = refl

pub keeping_cons : {S A B : Type 0} (g : List A → B) (x : A) (o : Read S (List A)) → keeping g (next o (λ xs q. got (x ∷ xs) q)) ≡ keeping (λ xs. g (x ∷ xs)) o
keeping_cons g x (got xs q) = refl
keeping_cons g x (refused e l) = refl

-- the sum, and the count with it, go on
pub sum_more : {S A : Type 0} (f : A → ℕ) (z : ℕ) (x : A) (o : Read S (List A)) → keeping (λ xs. z + total f (x ∷ xs)) o ≡ summed f (z + f x) o
sum_more f z x o = keeping_same _ _ o (λ xs. omega arith)

pub tally_more : {S A : Type 0} (f : A → ℕ) (n z : ℕ) (x : A) (o : Read S (List A))
    → keeping (λ xs. (n + length (x ∷ xs), z + total f (x ∷ xs))) o ≡ tallied f (n + 1) (z + f x) o
tally_more f n z x o =
    keeping_same _ _ o λ xs.
    let a : n + suc (length xs) ≡ n + 1 + length xs = omega arith in
    let b : z + (f x + total f xs) ≡ z + f x + total f xs = omega arith in
    λ i. (a i, b i)

pub sum_start : {S A : Type 0} (f : A → ℕ) (o : Read S (List A)) → summed f 0 o ≡ keeping (total f) o
sum_start f o = keeping_same _ _ o (λ xs. omega arith)

-- one value less of n
less : {n i : ℕ} → i < n → n - i ≡ suc (n - (i + 1))
less l = omega arith

-- ---- values that follow each other along

module _ {S A I : Type 0} (c : I → Codec S A) (m : I → A → I) (n j : ℕ) (i : I) (s : List S) where
  pub along_turn : {B : Type 0} (g : List A → B) {x : A} {r : List S} → j < n → (c i).dec s ≡ got x r
      → keeping g (along_dec c m (n - j) i s) ≡ keeping (λ xs. g (x ∷ xs)) (along_dec c m (n - (j + 1)) (m i x) r)
  along_turn g {x} {r} l h = ap (λ (k : ℕ). keeping g (along_dec c m k i s)) (less l) ∙ rw h (keeping_cons g x (along_dec c m (n - (j + 1)) (m i x) r))

  pub along_stop : {e l : ℕ} → j < n → (c i).dec s ≡ refused e l → along_dec c m (n - j) i s ≡ refused e l
  along_stop k h = ap (λ (d : ℕ). along_dec c m d i s) (less k) ∙ rw h

  pub along_done : n ≤ j → along_dec c m (n - j) i s ≡ got [] s
  along_done h = let z : n - j ≡ 0 = omega arith in ap (λ (d : ℕ). along_dec c m d i s) z

-- ---- values while eight bits or more are left

module _ {A : Type 0} (c : Codec Bool A) (bad over most n : ℕ) (s : Bits) where
  pub many_turn : {B : Type 0} (g : List A → B) {x : A} {r : Bits} → n < most → 8 ≤ length s → c.dec s ≡ got x r
      → keeping g (many_dec c bad over (most - n) s) ≡ keeping (λ xs. g (x ∷ xs)) (many_dec c bad over (most - (n + 1)) r)
  many_turn g {x} {r} l h e =
      ap (λ (k : ℕ). keeping g (many_dec c bad over k s)) (less l)
      ∙ ap (keeping g) (pick_no (few (length s)) _ _ (few_no (length s) h) ∙ step) ∙ keeping_cons g x (many_dec c bad over (most - (n + 1)) r)
    where
      step : next (c.dec s) (λ y q. next (many_dec c bad over (most - (n + 1)) q) (λ xs u. got (y ∷ xs) u)) ≡ next (many_dec c bad over (most - (n + 1)) r) (λ xs u. got (x ∷ xs) u)
      step = rw e

  pub many_stop : {e l : ℕ} → n < most → 8 ≤ length s → c.dec s ≡ refused e l → many_dec c bad over (most - n) s ≡ refused e l
  many_stop k h d = ap (λ (j : ℕ). many_dec c bad over j s) (less k) ∙ pick_no (few (length s)) _ _ (few_no (length s) h) ∙ rw d

  pub many_full : n ≡ most → 8 ≤ length s → many_dec c bad over (most - n) s ≡ refused over (length s)
  many_full e h = let z : most - n ≡ 0 = omega arith in ap (λ (j : ℕ). many_dec c bad over j s) z ∙ many_over c bad over s h

  pub many_last : length s < 8 → many_dec c bad over (most - n) s ≡ next (zeros_dec bad s) (λ u r. got [] r)
  many_last h = go (most - n)
    where
      go : (k : ℕ) → many_dec c bad over k s ≡ next (zeros_dec bad s) (λ u r. got [] r)
      go zero = pick_yes (few (length s)) _ _ (few_yes (length s) h)
      go (suc k) = pick_yes (few (length s)) _ _ (few_yes (length s) h)

-- ---- values that fill a block

module _ {A : Type 0} (c : Codec Bool A) (bad most n : ℕ) (s : Bits) where
  pub fill_turn : {B : Type 0} (g : List A → B) {x : A} {r : Bits} → n < most → 0 < length s → c.dec s ≡ got x r
      → keeping g (fill_dec c bad (most - n) s) ≡ keeping (λ xs. g (x ∷ xs)) (fill_dec c bad (most - (n + 1)) r)
  fill_turn g {x} {r} l h e =
      ap (λ (k : ℕ). keeping g (fill_dec c bad k s)) (less l)
      ∙ ap (keeping g) (fill_more c bad (most - (n + 1)) s h ∙ step) ∙ keeping_cons g x (fill_dec c bad (most - (n + 1)) r)
    where
      step : next (c.dec s) (λ y q. next (fill_dec c bad (most - (n + 1)) q) (λ xs u. got (y ∷ xs) u)) ≡ next (fill_dec c bad (most - (n + 1)) r) (λ xs u. got (x ∷ xs) u)
      step = rw e

  pub fill_stop : {e l : ℕ} → n < most → 0 < length s → c.dec s ≡ refused e l → fill_dec c bad (most - n) s ≡ refused e l
  fill_stop k h d = ap (λ (j : ℕ). fill_dec c bad j s) (less k) ∙ fill_more c bad (most - (n + 1)) s h ∙ rw d

pub fill_done : {A : Type 0} (c : Codec Bool A) (bad k : ℕ) (s : Bits) → s ≡ [] → fill_dec c bad k s ≡ got [] []
fill_done c bad zero s e = ap (fill_dec c bad 0) e
fill_done c bad (suc k) s e = ap (fill_dec c bad (suc k)) e

-- k numbers of w bits fill k w bits
pub numbers_fill : (e w k n : ℕ) (s : Bits) → 1 ≤ w → length s ≡ k * w → k ≤ n → (xs : List ℕ) × (length xs ≡ k) × (fill_dec (field e w) e n s ≡ got xs [])
numbers_fill e w zero n s o h l = ([], refl, fill_done (field e w) e n s (none s (omega arith)))
  where
    none : (s : Bits) → length s ≡ 0 → s ≡ []
    none [] z = refl
    none (b ∷ s) z = absurd (omega arith)
numbers_fill e w (suc k) zero s o h l = absurd (omega arith)
numbers_fill e w (suc k) (suc n) s o h l =
    let m : length s ≡ w + k * w = omega (arith, h, add-mul 1 k w) in
    let (xs, z, d) = numbers_fill e w k n (drop w s) o (length-drop w s ∙ omega arith) (omega arith) in
    let f = first_field e w s (omega arith) in
    (number_of_bits (take w s) ∷ xs, ap suc z, fill_more (field e w) e n s (omega arith) ∙ rw (f, d))

-- ---- zero bits, a field of them at a time

-- n that are zero are passed
zeros_pass : (e n : ℕ) (s : Bits) → number_of_bits (take n s) ≡ 0 → zeros_dec e s ≡ zeros_dec e (drop n s)
unfolding number_of_bits
zeros_pass e zero s h = refl
zeros_pass e (suc n) [] h = refl
zeros_pass e (suc n) (false ∷ s) h = zeros_pass e n s (omega (arith, h))
zeros_pass e (suc n) (true ∷ s) h = absurd (omega (arith, h, pow_pos (length (take n s))))

-- n bits whose number is half of what they can write, or more, start with a 1
zeros_stop : (e n : ℕ) (s : Bits) → 2 ^ n ≤ number_of_bits (take (suc n) s) → zeros_dec e s ≡ refused e (length s)
unfolding number_of_bits
zeros_stop e n [] h = absurd (omega (arith, h, pow_pos n))
zeros_stop e n (true ∷ s) h = refl
zeros_stop e n (false ∷ s) h = absurd (omega (arith, h, number_small s n))

module _ (e n : ℕ) (s : Bits) {v : ℕ} {r : Bits} (h : field_dec e n s ≡ got v r) where
  pub field_zero : v ≡ 0 → zeros_dec e s ≡ zeros_dec e r
  field_zero z = let (i, value_is_lem, rest) = field_got e n s h in zeros_pass e n s (value_is_lem ∙ z) ∙ ap (zeros_dec e) rest

  -- bit k is the first that is 1
  pub field_one : (k : ℕ) → k < n → v < 2 ^ (n - k) → 2 ^ (n - k - 1) ≤ v → zeros_dec e s ≡ refused e (length s - k)
  field_one k j below above =
      let (i, value_is_lem, _) = field_got e n s h in
      let m = n - k - 1 in
      let xs : Bits = take n s in
      let l : length xs ≡ k + (n - k) = length-take-le n s i ∙ omega arith in
      let a : k + (n - k) ≡ n = omega arith in
      let b : suc m ≡ n - k = omega arith in
      let front : number_of_bits (take k s) ≡ 0 =
      ap number_of_bits (sym (take-take k n s (omega arith))) ∙ number_take k (n - k) xs l ∙ ap (λ (x : ℕ). x / 2 ^ (n - k)) value_is_lem ∙ div-eq_of_lt below in
      let rest : take (suc m) (drop k s) ≡ drop k xs =
      ap (λ (x : ℕ). take x (drop k s)) b ∙ sym (drop_at (take k s) (take (n - k) (drop k s)) k (length-take-le k s (omega arith)))
      ∙ ap (drop k) (sym (take-add k (n - k) s) ∙ ap (λ (x : ℕ). take x s) a) in
      let back : number_of_bits (take (suc m) (drop k s)) ≡ v =
      ap number_of_bits rest ∙ number_drop k (n - k) xs l ∙ ap (λ (x : ℕ). x % 2 ^ (n - k)) value_is_lem ∙ mod-eq_of_lt below in
      zeros_pass e k s front ∙ zeros_stop e m (drop k s) (rw back above) ∙ ap (refused e) (length-drop k s)
