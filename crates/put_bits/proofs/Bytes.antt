-- Bits one behind the other, as a number and as bytes. The laws of Bits and Bytes read a list from its front; these take it apart
-- where a writer stands.
use mathlib.Core.Path.{◌≡◌, refl, ap, ap₂, ◌∙◌}
use Prim.Native.Nat.{ℕ, zero, suc, ◌+◌, ◌-◌, ◌*◌, ◌/◌, ◌%◌, ◌^◌, ◌≤◌}
use native.Mathlib.Omega.{arith}
use native.Mathlib.Nat.{div-eq_of_lt}
use mathlib.Core.Bool.{false}
use mathlib.Core.List.{List, [], ◌∷◌, ◌++◌, append_assoc, append-nil}
use lib.ListN.{length, take, drop, length-append, length-drop, length-replicate}
use lib.Pow.{pow_pos}
use lib.Seq.{take-append-le, drop-append-le, take_all}
use Rattle.bits.specs.Bits.{Bits, bit, number_of_bits, bits_of_number, zeros, pad, filled}
use Rattle.bits.specs.BitsLaws.{filled_long}
use Rattle.bits.specs.Bytes.{bytes_of, in_bytes}
use Rattle.bits.specs.BytesLaws.{length_in}
use Rattle.bits.proofs.Laws.Place.{number_append}

-- ---- number_of_bits

pub number_zeros : (n : ℕ) → number_of_bits (zeros n) ≡ 0
unfolding number_of_bits
number_zeros zero = refl
number_zeros (suc n) = omega (arith, number_zeros n)

pub zero_bits : (w : ℕ) → bits_of_number w 0 ≡ zeros w
unfolding bits_of_number
zero_bits zero = refl
zero_bits (suc w) = ap₂ (λ (n : ℕ) (r : Bits). bit (n % 2) ∷ r) (div-eq_of_lt (pow_pos w)) (zero_bits w)

-- n zero bits behind
pub number_filled : (xs : Bits) (n : ℕ) → number_of_bits (xs ++ zeros n) ≡ number_of_bits xs * 2 ^ n
number_filled xs n =
    number_append xs (zeros n) ∙ ap₂ (λ (k m : ℕ). number_of_bits xs * 2 ^ k + m) (length-replicate n false) (number_zeros n) ∙ omega arith

pub number_none : (xs : Bits) → length xs ≡ 0 → number_of_bits xs ≡ 0
unfolding number_of_bits
number_none [] e = refl
number_none (b ∷ xs) e = absurd (omega arith)

-- ---- bytes_of

pub bytes_append : (n m : ℕ) (xs ys : Bits) → length xs ≡ 8 * n → bytes_of (n + m) (xs ++ ys) ≡ bytes_of n xs ++ bytes_of m ys
unfolding bytes_of
bytes_append zero m [] ys l = let e : 0 + m ≡ m = omega arith in rw e
bytes_append zero m (x ∷ xs) ys l = absurd (omega arith)
bytes_append (suc n) m xs ys l =
    let e : suc n + m ≡ suc (n + m) = omega arith in
    let k : 8 ≤ length xs = omega arith in
    rw e
    (ap₂ (λ (x : ℕ) (r : List ℕ). x ∷ r) (ap number_of_bits (take-append-le 8 xs ys k))
    (ap (bytes_of (n + m)) (drop-append-le 8 xs ys k) ∙ bytes_append n m (drop 8 xs) ys (length-drop 8 xs ∙ omega arith)))

pub bytes_first : (n : ℕ) (xs ys : Bits) → length xs ≡ 8 * n → bytes_of n (xs ++ ys) ≡ bytes_of n xs
unfolding bytes_of
bytes_first n xs ys l = let e : n + 0 ≡ n = omega arith in rw (e, append-nil) at (bytes_append n 0 xs ys l)

pub bytes_take : (m n : ℕ) (xs : Bits) → m ≤ n → take m (bytes_of n xs) ≡ bytes_of m xs
unfolding bytes_of
bytes_take zero n xs l = refl
bytes_take (suc m) zero xs l = absurd (omega arith)
bytes_take (suc m) (suc n) xs l = ap (λ (r : List ℕ). number_of_bits (take 8 xs) ∷ r) (bytes_take m n (drop 8 xs) (omega arith))

-- ---- filled

-- whole bytes in front
pub filled_behind : (n : ℕ) (xs ys : Bits) → length xs ≡ 8 * n → filled (xs ++ ys) ≡ xs ++ filled ys
filled_behind n xs ys l =
    let p : pad (length (xs ++ ys)) ≡ pad (length ys) = ap pad (length-append xs ys) ∙ omega arith in
    ap (λ (k : ℕ). (xs ++ ys) ++ zeros k) p ∙ append_assoc xs ys (zeros (pad (length ys)))

pub filled_append : (n : ℕ) (xs ys : Bits) → length xs ≡ 8 * n → in_bytes (filled (xs ++ ys)) ≡ bytes_of n xs ++ in_bytes (filled ys)
filled_append n xs ys l =
    let d : length (xs ++ filled ys) / 8 ≡ n + length (filled ys) / 8 = ap (λ (k : ℕ). k / 8) (length-append xs (filled ys)) ∙ omega arith in
    ap in_bytes (filled_behind n xs ys l) ∙ ap (λ (k : ℕ). bytes_of k (xs ++ filled ys)) d ∙ bytes_append n (length (filled ys) / 8) xs (filled ys) l

pub filled_length : (xs : Bits) → length (in_bytes (filled xs)) ≡ (length xs + 7) / 8
filled_length xs = length_in (filled xs) ∙ ap (λ (k : ℕ). k / 8) (filled_long xs) ∙ omega arith

-- filled up to n bytes
pub filled_to : (xs : Bits) (n : ℕ) → (length xs + 7) / 8 ≡ n
    → (length (xs ++ zeros (8 * n - length xs)) ≡ 8 * n) × (in_bytes (filled xs) ≡ bytes_of n (xs ++ zeros (8 * n - length xs)))
filled_to xs n e =
    let k = 8 * n - length xs in
    let p : pad (length xs) ≡ k = omega arith in
    let l : length (xs ++ zeros k) ≡ 8 * n = length-append xs (zeros k) ∙ omega (arith, length-replicate k false) in
    let d : length (xs ++ zeros k) / 8 ≡ n = omega arith in
    (l, ap (λ (j : ℕ). in_bytes (xs ++ zeros j)) p ∙ ap (λ (j : ℕ). bytes_of j (xs ++ zeros k)) d)

-- 1 to 8 bits
pub one_byte : (xs : Bits) → 1 ≤ length xs → length xs ≤ 8 → in_bytes (filled xs) ≡ number_of_bits xs * 2 ^ (8 - length xs) ∷ []
unfolding bytes_of
one_byte xs a b =
    let (l, e) = filled_to xs 1 (omega arith) in
    e ∙ ap (λ (r : Bits). number_of_bits r ∷ []) (take_all 8 (xs ++ zeros (8 - length xs)) (omega arith)) ∙ ap (λ (x : ℕ). x ∷ []) (number_filled xs (8 - length xs))
