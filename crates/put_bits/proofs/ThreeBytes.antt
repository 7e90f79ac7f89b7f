-- Three bytes as one number, into which a number of at most 16 bits fits wherever it begins in the first of them: what the code
-- computes of it, what its bits are, and which bytes are begun.
use mathlib.Core.Path.{◌≡◌, sym, ap, ap₂, ◌∙◌}
use Prim.Native.Nat.{ℕ, ◌+◌, ◌-◌, ◌*◌, ◌/◌, ◌%◌, ◌^◌, ◌≤◌, ◌<◌}
use native.Mathlib.Omega.{arith}
use native.Mathlib.Nat.{add-mul, mul_assoc}
use mathlib.Core.Bool.{false}
use mathlib.Core.List.{List, [], ◌∷◌, ◌++◌, append_assoc}
use lib.ListN.{length, take, drop, length-append, length-drop, length-replicate, replicate-append-replicate}
use lib.Pow.{pow-add, shl_lt, shr_lt, shl_exact, pow_mono}
use lib.Seq.{take_all}
use Rattle.bits.specs.Bits.{Bits, number_of_bits, bits_of_number, zeros, filled}
use Rattle.bits.specs.BitsLaws.{length_bits, number_bits, number_lt}
use Rattle.bits.specs.Bytes.{bytes_of, in_bytes}
use Rattle.bits.proofs.Laws.Place.{number_append, number_take, number_drop}
use Rattle.put_bits.proofs.Bytes.{number_filled, bytes_first, filled_to}

-- ---- what the code computes

-- Two shifts clear the low bits of a byte.
pub kept : (byte free : ℕ) → byte < 256 → free ≤ 8
    → (byte / 2 ^ free * 2 ^ free % 2 ^ 64 ≡ byte / 2 ^ free * 2 ^ free) × (byte / 2 ^ free * 2 ^ free < 256)
kept byte free b f =
    let e : 8 - free + free ≡ 8 = omega arith in
    let l : byte / 2 ^ free < 2 ^ (8 - free) = shr_lt (8 - free) free (rw e b) in
    (shl_exact (8 - free) free 64 l (omega arith), rw e at (shl_lt (8 - free) free l))

pub kept_high : (byte free : ℕ) → byte / 2 ^ free * 2 ^ free * 65536 ≡ byte / 2 ^ free * 2 ^ (free + 16)
kept_high byte free = mul_assoc (byte / 2 ^ free) (2 ^ free) (2 ^ 16) ∙ ap (λ (n : ℕ). byte / 2 ^ free * n) (sym (pow-add 2 free 16))

-- The number is shifted to where the kept bits end.
pub shifted : (free value width : ℕ) → free ≤ 8 → value < 2 ^ width → width ≤ 16
    → (value * 2 ^ (free + 16 - width) % 2 ^ 64 ≡ value * 2 ^ (free + 16 - width)) × (value * 2 ^ (free + 16 - width) < 2 ^ 24)
shifted free value width f v w =
    let k = free + 16 - width in
    let l = shl_lt width k v in
    (shl_exact width k 64 v (omega arith), omega (arith, l, pow_mono {i = width + k} {j = 24} (omega arith)))

-- ---- its bytes

abbrev pub three : ℕ → List ℕ
three n = n / 65536 % 256 ∷ n / 256 % 256 ∷ n % 256 ∷ []

pub three_bytes : (xs : Bits) → length xs ≡ 24 → bytes_of 3 xs ≡ three (number_of_bits xs)
unfolding bytes_of
three_bytes xs l =
    let n = number_of_bits xs in
    let ys : Bits = drop 8 xs in
    let k : length ys ≡ 16 = length-drop 8 xs ∙ omega arith in
    let t : n < 2 ^ 24 = rw l at (number_lt xs) in
    let e : number_of_bits ys ≡ n % 65536 = number_drop 8 16 xs l in
    let f : take 8 (drop 8 ys) ≡ drop 8 ys = take_all 8 (drop 8 ys) (omega (arith, length-drop 8 ys)) in
    let x : number_of_bits (take 8 xs) ≡ n / 65536 % 256 = number_take 8 16 xs l ∙ omega arith in
    let y : number_of_bits (take 8 ys) ≡ n / 256 % 256 = number_take 8 8 ys k ∙ omega arith in
    let z : number_of_bits (take 8 (drop 8 ys)) ≡ n % 256 = ap number_of_bits f ∙ number_drop 8 8 ys k ∙ omega arith in
    ap₂ (λ (a : ℕ) (r : List ℕ). a ∷ r) x (ap₂ (λ (a b : ℕ). a ∷ b ∷ []) y z)

-- ---- its bits: those that are put in its first byte, the number, and zeros

abbrev pub window_of : Bits → ℕ → ℕ → Bits
window_of ys value width = (ys ++ bits_of_number width value) ++ zeros (24 - length (ys ++ bits_of_number width value))

module _ (ys : Bits) (value width : ℕ) (l : length ys + width ≤ 24) where
  length_both : length (ys ++ bits_of_number width value) ≡ length ys + width
  length_both = length-append ys (bits_of_number width value) ∙ ap (λ (n : ℕ). length ys + n) (length_bits width value)

  pub length_window : length (window_of ys value width) ≡ 24
  length_window =
      let k = 24 - length (ys ++ bits_of_number width value) in
      length-append (ys ++ bits_of_number width value) (zeros k) ∙ omega (arith, length_both, length-replicate k false)

  pub number_window : (free : ℕ) → length ys + free ≡ 8 → value < 2 ^ width
      → number_of_bits (window_of ys value width) ≡ number_of_bits ys * 2 ^ (free + 16) + value * 2 ^ (free + 16 - width)
  number_window free f h =
      let k = free + 16 - width in
      let e : 24 - length (ys ++ bits_of_number width value) ≡ k = omega (arith, length_both) in
      let d : width + k ≡ free + 16 = omega arith in
      let n : number_of_bits (ys ++ bits_of_number width value) ≡ number_of_bits ys * 2 ^ width + value =
      number_append ys (bits_of_number width value) ∙ ap₂ (λ (a b : ℕ). number_of_bits ys * 2 ^ a + b) (length_bits width value) (number_bits width value h) in
      number_filled (ys ++ bits_of_number width value) (24 - length (ys ++ bits_of_number width value))
      ∙ ap₂ (λ (a b : ℕ). a * 2 ^ b) n e
      ∙ add-mul (number_of_bits ys * 2 ^ width) value (2 ^ k)
      ∙ ap (λ (a : ℕ). a + value * 2 ^ k) (mul_assoc (number_of_bits ys) (2 ^ width) (2 ^ k) ∙ ap (λ (a : ℕ). number_of_bits ys * a) (sym (pow-add 2 width k)))
      ∙ ap (λ (a : ℕ). number_of_bits ys * 2 ^ a + value * 2 ^ k) d

  -- the bytes that are begun
  pub bytes_window : (m : ℕ) → (length ys + width + 7) / 8 ≡ m → in_bytes (filled (ys ++ bits_of_number width value)) ≡ bytes_of m (window_of ys value width)
  bytes_window m e =
      let xs : Bits = ys ++ bits_of_number width value in
      let n = length xs in
      let (k, f) = filled_to xs m (omega (arith, length_both)) in
      let z : 8 * m - n + (24 - 8 * m) ≡ 24 - n = omega (arith, length_both) in
      let w : (xs ++ zeros (8 * m - n)) ++ zeros (24 - 8 * m) ≡ xs ++ zeros (24 - n) =
      append_assoc xs _ _ ∙ ap (λ (r : Bits). xs ++ r) (replicate-append-replicate (8 * m - n) (24 - 8 * m) false ∙ ap zeros z) in
      f ∙ sym (bytes_first m (xs ++ zeros (8 * m - n)) (zeros (24 - 8 * m)) k) ∙ ap (bytes_of m) w
