-- The parts of a data object's length: "BER's shortest form (one byte; 81 above 127; 82 above 255)". Up to 127 the first byte is the
-- length; else it says how many bytes follow, which are the length.
use Rattle.std.specs.Prelude.{ℕ, Bool, ◌||◌, leb, ltb, eqb}
use Rattle.bits.specs.Choice.{pick}
use Rattle.bits.specs.Codec.{Codec}
use Rattle.bits.specs.CodecLaws.{field, then, only}
use Rattle.outcome.specs.Refusals.{bad_object}

abbrev pub first_ok : ℕ → Bool
first_ok first = ltb first 128 || eqb first 0x81 || eqb first 0x82

-- how many bits follow the first byte, and the least length that needs so many
abbrev pub bits_behind : ℕ → ℕ
bits_behind first = pick (ltb first 128) 0 (pick (eqb first 0x81) 8 16)

abbrev pub least_behind : ℕ → ℕ
least_behind first = pick (ltb first 128) 0 (pick (eqb first 0x81) 128 256)

-- the first byte, and the number that follows it: 0 where nothing does
abbrev pub length_parts : Codec Bool (ℕ × ℕ)
length_parts = then (only (field bad_object 8) bad_object first_ok) λ first. only (field bad_object (bits_behind first)) bad_object (leb (least_behind first))

abbrev pub make_length : ℕ × ℕ → ℕ
make_length (first, n) = pick (ltb first 128) first n

-- what goes with the form that a length n takes: one byte; 81; 82
abbrev pub by_form : {A : Type 0} → (n : ℕ) → A → A → A → A
by_form n one with81 with82 = pick (ltb n 128) one (pick (ltb n 256) with81 with82)

abbrev pub parts_of_length : ℕ → ℕ × ℕ
parts_of_length n = by_form n (n, 0) (0x81, n) (0x82, n)
