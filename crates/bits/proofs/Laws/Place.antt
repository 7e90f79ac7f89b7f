-- Bits one behind the other as a number, and a field of the bytes by its place: what joins code that counts places to lists of bits. A
-- field goes by the bytes that it touches: one to three for 1 to 16 bits.
use mathlib.Core.Path.{◌≡◌, refl, sym, ap, ap₂, ◌∙◌}
use Prim.Native.Nat.{ℕ, suc, ◌+◌, ◌-◌, ◌*◌, ◌/◌, ◌%◌, ◌^◌, ◌≤◌, ◌<◌}
use native.Mathlib.Omega.{arith}
use native.Mathlib.Nat.{add-mul, mul_assoc, add_assoc}
use native.Mathlib.Numerals.{add-one}
use mathlib.Core.List.{List, [], ◌∷◌, ◌++◌}
use lib.ListN.{length, get_or, take, drop, length-append, length-take, length-drop, take-append-drop}
use lib.Pow.{pow-add, pow_mono, high, low, field, shl-shr, shr-shr}
use lib.Seq.{take-add, take-take, drop_at, drop-cons, drop-drop, length-take-le}
use Rattle.bits.specs.ChoiceLaws.{eq_split}
use Rattle.bits.specs.Lists.{All}
use Rattle.bits.specs.Bits.{Bits, val, number_of_bits, bits_of_number}
use Rattle.bits.specs.BitsLaws.{number_lt, number_bits}
use Rattle.bits.specs.Bytes.{Byte, bits_of}
use Rattle.bits.specs.BytesLaws.{length_bits_of}
use Rattle.bits.proofs.Laws.Parts.{part, part_bits}

-- what a proof of code knows of each byte, as the definitions say it of all
pub all_bytes : (xs : List ℕ) → ((i : ℕ) → get_or xs i 0 < 2 ^ 8) → All Byte xs
all_bytes [] f = tt
all_bytes (x ∷ xs) f = (f 0, all_bytes xs (λ i. f (suc i)))

-- ---- bits one behind the other

spread : (v p n q m : ℕ) → v * (p * q) + (n * q + m) ≡ (v * p + n) * q + m
spread v p n q m = simp (add-mul, mul_assoc, add_assoc)

pub number_append : (xs ys : Bits) → number_of_bits (xs ++ ys) ≡ number_of_bits xs * 2 ^ length ys + number_of_bits ys
unfolding number_of_bits
number_append [] ys = omega arith
number_append (b ∷ xs) ys =
    ap₂ (λ (n m : ℕ). val b * n + m) (ap (λ (k : ℕ). 2 ^ k) (length-append xs ys) ∙ pow-add 2 (length xs) (length ys)) (number_append xs ys)
    ∙ spread (val b) (2 ^ length xs) (number_of_bits xs) (2 ^ length ys) (number_of_bits ys)

module _ (a b : ℕ) (xs : Bits) (l : length xs ≡ a + b) where
  length_rest : length (drop a xs) ≡ b
  length_rest = length-drop a xs ∙ omega arith

  number_split : number_of_bits xs ≡ number_of_bits (take a xs) * 2 ^ b + number_of_bits (drop a xs)
  number_split =
      ap number_of_bits (sym (take-append-drop a xs)) ∙ number_append (take a xs) (drop a xs)
      ∙ ap (λ (n : ℕ). number_of_bits (take a xs) * 2 ^ n + number_of_bits (drop a xs)) length_rest

  rest_lt : number_of_bits (drop a xs) < 2 ^ b
  rest_lt = rw length_rest at (number_lt (drop a xs))

  pub number_take : number_of_bits (take a xs) ≡ number_of_bits xs / 2 ^ b
  number_take = sym (ap (λ (n : ℕ). n / 2 ^ b) number_split ∙ high (number_of_bits (take a xs)) b rest_lt)

  pub number_drop : number_of_bits (drop a xs) ≡ number_of_bits xs % 2 ^ b
  number_drop = sym (ap (λ (n : ℕ). n % 2 ^ b) number_split ∙ low (number_of_bits (take a xs)) b rest_lt)

-- two fields that follow each other are one
pub number_two : (xs : Bits) (p m n : ℕ) → p + m + n ≤ length xs
    → number_of_bits (take m (drop p xs)) * 2 ^ n + number_of_bits (take n (drop (p + m) xs)) ≡ number_of_bits (take (m + n) (drop p xs))
number_two xs p m n l =
    let ys : Bits = drop p xs in
    let z : drop m ys ≡ drop (p + m) xs = drop-drop m p xs in
    let k : n ≤ length (drop (p + m) xs) = rw (length-drop (p + m) xs) (omega arith) in
    sym (ap number_of_bits (take-add m n ys ∙ ap (λ (zs : Bits). take m ys ++ take n zs) z) ∙ number_append (take m ys) (take n (drop (p + m) xs))
    ∙ ap (λ (j : ℕ). number_of_bits (take m ys) * 2 ^ j + number_of_bits (take n (drop (p + m) xs))) (length-take-le n (drop (p + m) xs) k))

-- n bits, or fewer where no more are there
pub number_small : (xs : Bits) (n : ℕ) → number_of_bits (take n xs) < 2 ^ n
number_small xs n = omega (arith, number_lt (take n xs), pow_mono {i = length (take n xs)} {j = n} (rw (length-take n xs) (omega arith)))

-- ---- a field of w bits at place r of some bits

module _ (xs : Bits) (r w : ℕ) (l : r + w ≤ length xs) where
  number_field : number_of_bits (take w (drop r xs)) ≡ number_of_bits xs / 2 ^ (length xs - (r + w)) % 2 ^ w
  number_field =
      let k = length xs - (r + w) in
      let front : Bits = take (r + w) xs in
      let e : drop r front ≡ take w (drop r xs) =
      ap (drop r) (take-add r w xs) ∙ drop_at (take r xs) (take w (drop r xs)) r (length-take-le r xs (omega arith)) in
      ap number_of_bits (sym e) ∙ number_drop r w front (length-take-le (r + w) xs l)
      ∙ ap (λ (n : ℕ). n % 2 ^ w) (number_take (r + w) k xs (omega arith))

  -- it is left where the number is shifted up until no bit is before it, and down until none is behind it
  pub shifted : length xs ≤ 64 → number_of_bits xs * 2 ^ (64 - length xs + r) % 2 ^ 64 / 2 ^ (64 - w) ≡ number_of_bits (take w (drop r xs))
  shifted m =
      let n = number_of_bits xs in
      let up = 64 - length xs + r in
      let k = length xs - (r + w) in
      let a : w + (64 - w) ≡ 64 = omega arith in
      let b : up + k ≡ 64 - w = omega arith in
      let d : n * 2 ^ up / 2 ^ (64 - w) ≡ n / 2 ^ k =
      ap (λ (j : ℕ). n * 2 ^ up / 2 ^ j) (sym b) ∙ sym (shr-shr (n * 2 ^ up) up k) ∙ ap (λ (j : ℕ). j / 2 ^ k) (shl-shr n up) in
      ap (λ (j : ℕ). n * 2 ^ up % 2 ^ j / 2 ^ (64 - w)) (sym a) ∙ field (n * 2 ^ up) w (64 - w)
      ∙ ap (λ (j : ℕ). j % 2 ^ w) d ∙ sym number_field

-- in the n bits from place p on
field_within : (xs : Bits) (p n r w : ℕ) → r + w ≤ n → p + r ≤ length xs → take w (drop r (take n (drop p xs))) ≡ take w (drop (p + r) xs)
field_within xs p n r w l m =
    let ys : Bits = drop p xs in
    let a : r + (n - r) ≡ n = omega arith in
    let b : r ≤ length ys = rw (length-drop p xs) (omega arith) in
    ap (λ (j : ℕ). take w (drop r (take j ys))) (sym a) ∙ ap (λ (zs : Bits). take w (drop r zs)) (take-add r (n - r) ys)
    ∙ ap (take w) (drop_at (take r ys) (take (n - r) (drop r ys)) r (length-take-le r ys b))
    ∙ take-take w (n - r) (drop r ys) (omega arith) ∙ ap (take w) (drop-drop r p xs)

-- A field of bytes goes by those that it touches: they are n of s from a on, and stand in t from b on.
pub by_touched : (s t : List ℕ) (a b n r w : ℕ) → part s a n ≡ part t b n → a + n ≤ length s → b + n ≤ length t → r + w ≤ 8 * n
    → take w (drop (8 * a + r) (bits_of s)) ≡ take w (drop (8 * b + r) (bits_of t))
by_touched s t a b n r w e i j l =
    sym (field_within (bits_of s) (8 * a) (8 * n) r w l (omega (arith, length_bits_of s)))
    ∙ ap (λ (xs : Bits). take w (drop r xs)) (sym (part_bits s a n) ∙ ap bits_of e ∙ part_bits t b n)
    ∙ field_within (bits_of t) (8 * b) (8 * n) r w l (omega (arith, length_bits_of t))

-- ---- out of a number, two shifts

number_more : (x : ℕ) (xs : List ℕ) → x < 2 ^ 8 → number_of_bits (bits_of (x ∷ xs)) ≡ x * 2 ^ (8 * length xs) + number_of_bits (bits_of xs)
unfolding bits_of
number_more x xs h =
    number_append (bits_of_number 8 x) (bits_of xs) ∙ ap₂ (λ (n m : ℕ). n * 2 ^ m + number_of_bits (bits_of xs)) (number_bits 8 x h) (length_bits_of xs)

one_more : (s : List ℕ) (a n : ℕ) → a < length s → part s a (suc n) ≡ get_or s a 0 ∷ part s (a + 1) n
one_more s a n l = ap (take (suc n)) (drop-cons s a 0 l) ∙ ap (λ (k : ℕ). get_or s a 0 ∷ part s k n) (sym (add-one a))

two_more : (s : List ℕ) (a n : ℕ) → a + 1 < length s → part s a (suc (suc n)) ≡ get_or s a 0 ∷ get_or s (a + 1) 0 ∷ part s (a + 1 + 1) n
two_more s a n l = one_more s a (suc n) (omega arith) ∙ ap (λ (r : List ℕ). get_or s a 0 ∷ r) (one_more s (a + 1) n l)

module _ (s : List ℕ) (at w : ℕ) (there : at + w ≤ 8 * length s) where
  abbrev field_there : ℕ
  field_there = number_of_bits (take w (drop at (bits_of s)))

  -- x is the number of the bytes t, of which the first n are those of s that the field touches
  out_of : (t : List ℕ) (n : ℕ) → part t 0 n ≡ part s (at / 8) n → n ≤ length t → length t ≤ 8 → at / 8 + n ≤ length s → at % 8 + w ≤ 8 * n
      → {x up : ℕ} → x ≡ number_of_bits (bits_of t) → up ≡ 64 - 8 * length t + at % 8 → x * 2 ^ up % 2 ^ 64 / 2 ^ (64 - w) ≡ field_there
  out_of t n e i j k l {x} {up} z u =
      let a = at / 8 in
      let r = at % 8 in
      let long : length (bits_of t) ≡ 8 * length t = length_bits_of t in
      let v : up ≡ 64 - length (bits_of t) + r = omega arith in
      let place : 8 * a + r ≡ at = omega arith in
      let begin : 8 * 0 + r ≡ r = omega arith in
      let same : take w (drop r (bits_of t)) ≡ take w (drop at (bits_of s)) = rw (begin, place) at (by_touched t s 0 a n r w e (omega arith) k l) in
      ap₂ (λ (y m : ℕ). y * 2 ^ m % 2 ^ 64 / 2 ^ (64 - w)) z v ∙ shifted (bits_of t) r w (omega arith) (omega arith) ∙ ap number_of_bits same

  module _ (small : (i : ℕ) → get_or s i 0 < 2 ^ 8) {z : ℕ} (last : z ≡ (at + w - 1) / 8) where
    two_bytes : {x y : ℕ} (k l : ℕ) → x ≡ get_or s k 0 → y ≡ get_or s l 0 → x * 256 + y ≡ number_of_bits (bits_of (get_or s k 0 ∷ get_or s l 0 ∷ []))
    unfolding number_of_bits bits_of
    two_bytes k l e f = omega (arith, e, f, number_more (get_or s k 0) (get_or s l 0 ∷ []) (small k), number_more (get_or s l 0) [] (small l))

    -- the first byte and the last
    pub out_of_two : 1 ≤ w → w ≤ 9 → {x y up : ℕ} → x ≡ get_or s (at / 8) 0 → y ≡ get_or s z 0 → up ≡ at % 8 + 48
        → (x * 256 + y) * 2 ^ up % 2 ^ 64 / 2 ^ (64 - w) ≡ field_there
    out_of_two h k {x} {y} ex ey u =
        let a = at / 8 in
        let t : List ℕ = get_or s a 0 ∷ get_or s z 0 ∷ [] in
        let number : x * 256 + y ≡ number_of_bits (bits_of t) = two_bytes a z ex ey in
        eq_split z a
        (λ e. out_of t 1 (sym (one_more s a 0 (omega arith))) (omega arith) (omega arith) (omega arith) (omega arith) number (omega arith))
        (λ e. let f : z ≡ a + 1 = omega arith in
        out_of t 2 (sym (two_more s a 0 (omega arith) ∙ ap (λ (k : ℕ). get_or s a 0 ∷ get_or s k 0 ∷ []) (sym f))) (omega arith) (omega arith) (omega arith) (omega arith) number (omega arith))

    -- the first two and the last
    pub out_of_three : 10 ≤ w → w ≤ 16 → {x y up : ℕ} → x ≡ get_or s (at / 8) 0 * 256 + get_or s (at / 8 + 1) 0 → y ≡ get_or s z 0 → up ≡ at % 8 + 40
        → (x * 256 + y) * 2 ^ up % 2 ^ 64 / 2 ^ (64 - w) ≡ field_there
    out_of_three h k {x} {y} ex ey u =
        let a = at / 8 in
        let t : List ℕ = get_or s a 0 ∷ get_or s (a + 1) 0 ∷ get_or s z 0 ∷ [] in
        let number : x * 256 + y ≡ number_of_bits (bits_of t) =
        omega (arith, ex, ey, number_more (get_or s a 0) (get_or s (a + 1) 0 ∷ get_or s z 0 ∷ []) (small a), two_bytes (a + 1) z refl refl) in
        eq_split z (a + 1)
        (λ e. out_of t 2 (sym (two_more s a 0 (omega arith))) (omega arith) (omega arith) (omega arith) (omega arith) number (omega arith))
        (λ e. let f : z ≡ a + 1 + 1 = omega arith in
        out_of t 3 (sym (two_more s a 1 (omega arith) ∙ ap (λ (r : List ℕ). get_or s a 0 ∷ get_or s (a + 1) 0 ∷ r) (one_more s (a + 1 + 1) 0 (omega arith)) ∙ ap (λ (k : ℕ). get_or s a 0 ∷ get_or s (a + 1) 0 ∷ get_or s k 0 ∷ []) (sym f))) (omega arith) (omega arith) (omega arith) (omega arith) number (omega arith))
