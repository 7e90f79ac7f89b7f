-- Bits, and numbers of a width. "Numbers are unsigned, high byte first, high bit first." A bit is a Bool, so that no law asks
-- whether a list holds bits.
use Rattle.std.specs.Prelude.{ℕ, zero, suc, ◌+◌, ◌-◌, ◌*◌, ◌/◌, ◌%◌, ◌^◌, Bool, true, false, List, [], ◌∷◌, ◌++◌, length, replicate}

abbrev pub Bits : Type 0
Bits = List Bool

abbrev pub val : Bool → ℕ
val true = 1
val false = 0

abbrev pub bit : ℕ → Bool
bit zero = false
bit (suc n) = true

-- the number that the bits write
unfoldable pub number_of_bits : Bits → ℕ
number_of_bits [] = 0
number_of_bits (b ∷ bs) = val b * 2 ^ length bs + number_of_bits bs

-- the lowest w bits of n
unfoldable pub bits_of_number : ℕ → ℕ → Bits
bits_of_number zero n = []
bits_of_number (suc w) n = bit (n / 2 ^ w % 2) ∷ bits_of_number w n

abbrev pub zeros : ℕ → Bits
zeros n = replicate n false

-- how many bits fill n bits up to whole bytes
abbrev pub pad : ℕ → ℕ
pad n = 7 - (n + 7) % 8

-- bits, then 0 to 7 zero bits up to a whole byte
abbrev pub filled : Bits → Bits
filled s = s ++ zeros (pad (length s))
