-- Bytes and their bits.
use Rattle.std.specs.Prelude.{ℕ, zero, suc, ◌/◌, ◌^◌, ◌<◌, List, [], ◌∷◌, ◌++◌, length, take, drop}
use Rattle.bits.specs.Bits.{Bits, number_of_bits, bits_of_number}

abbrev pub Byte : ℕ → Type 0
Byte x = x < 2 ^ 8

unfoldable pub bits_of : List ℕ → Bits
bits_of [] = []
bits_of (x ∷ xs) = bits_of_number 8 x ++ bits_of xs

-- the first n bytes that the bits write
unfoldable pub bytes_of : ℕ → Bits → List ℕ
bytes_of zero s = []
bytes_of (suc n) s = number_of_bits (take 8 s) ∷ bytes_of n (drop 8 s)

-- all of them
abbrev pub in_bytes : Bits → List ℕ
in_bytes s = bytes_of (length s / 8) s
