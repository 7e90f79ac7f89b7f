-- The laws of Bytes: bits to bytes and back.
use Rattle.std.specs.Prelude.{◌≡◌, refl, ℕ, zero, suc, ◌*◌, ◌/◌, ◌%◌, List, [], ◌∷◌, ◌++◌, length, take, drop}
use Rattle.std.proofs.Common.{ap, ap₂, ◌∙◌, arith, append_assoc, append-nil, length-append, length-drop, take-append-drop, take_at, drop_at, length-take-le}
use Rattle.bits.specs.Lists.{All}
use Rattle.bits.specs.Bits.{Bits, number_of_bits, bits_of_number}
use Rattle.bits.specs.BitsLaws.{length_bits, number_bits, bits_number, number_lt}
use Rattle.bits.specs.Bytes.{Byte, bits_of, bytes_of, in_bytes}

pub bits_append : (xs ys : List ℕ) → bits_of (xs ++ ys) ≡ bits_of xs ++ bits_of ys
unfolding bits_of
bits_append [] ys = refl
bits_append (x ∷ xs) ys = rw (append_assoc, bits_append xs ys)

pub length_bits_of : (xs : List ℕ) → length (bits_of xs) ≡ 8 * length xs
unfolding bits_of
length_bits_of [] = refl
length_bits_of (x ∷ xs) = length-append (bits_of_number 8 x) (bits_of xs) ∙ rw (length_bits 8 x, length_bits_of xs) (omega arith)

pub length_bytes_of : (n : ℕ) (s : Bits) → length (bytes_of n s) ≡ n
unfolding bytes_of
length_bytes_of zero s = refl
length_bytes_of (suc n) s = ap suc (length_bytes_of n (drop 8 s))

pub bits_bytes : (n : ℕ) (s : Bits) → length s ≡ 8 * n → bits_of (bytes_of n s) ≡ s
unfolding bits_of bytes_of
bits_bytes zero [] h = refl
bits_bytes zero (b ∷ s) h = absurd (omega arith)
bits_bytes (suc n) s h =
    let l : length (take 8 s) ≡ 8 = length-take-le 8 s (omega arith) in
    ap₂ (λ (x y : Bits). x ++ y) (rw l at (bits_number (take 8 s))) (bits_bytes n (drop 8 s) (simp length-drop (omega arith)))
    ∙ take-append-drop 8 s

bytes_front : (xs : List ℕ) (r : Bits) → All Byte xs → bytes_of (length xs) (bits_of xs ++ r) ≡ xs
unfolding bits_of bytes_of
bytes_front [] r h = refl
bytes_front (x ∷ xs) r h =
    rw append_assoc
    (ap₂ (λ (a : ℕ) (y : List ℕ). a ∷ y)
    (ap number_of_bits (take_at (bits_of_number 8 x) (bits_of xs ++ r) 8 (length_bits 8 x)) ∙ number_bits 8 x h.0)
    (ap (bytes_of (length xs)) (drop_at (bits_of_number 8 x) (bits_of xs ++ r) 8 (length_bits 8 x)) ∙ bytes_front xs r h.1))

pub bytes_bits : (xs : List ℕ) → All Byte xs → bytes_of (length xs) (bits_of xs) ≡ xs
bytes_bits xs h = rw (append-nil (bits_of xs)) at (bytes_front xs [] h)

pub bytes_are : (n : ℕ) (s : Bits) → length s ≡ 8 * n → All Byte (bytes_of n s)
unfolding bytes_of
bytes_are zero s h = tt
bytes_are (suc n) s h =
    let l : length (take 8 s) ≡ 8 = length-take-le 8 s (omega arith) in
    (rw l at (number_lt (take 8 s)), bytes_are n (drop 8 s) (simp length-drop (omega arith)))

-- ---- all of the bits

pub bits_in : (s : Bits) → length s % 8 ≡ 0 → bits_of (in_bytes s) ≡ s
bits_in s h = bits_bytes (length s / 8) s (omega arith)

pub in_bits : (xs : List ℕ) → All Byte xs → in_bytes (bits_of xs) ≡ xs
in_bits xs h = let z : length (bits_of xs) / 8 ≡ length xs = omega (arith, length_bits_of xs) in rw z (bytes_bits xs h)

pub length_in : (s : Bits) → length (in_bytes s) ≡ length s / 8
length_in s = length_bytes_of (length s / 8) s
