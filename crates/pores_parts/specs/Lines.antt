-- The lines of a payload of pores, and what stands before them: "resolution (2 bytes), element bits (2 to 8), then for each skeleton line
-- one zero element followed by distances. The last line stops before a zero element or with under e bits left; the rest is 0 to 7 zero
-- bits."
use Rattle.std.specs.Prelude.{ℕ, Bool, List}
use Rattle.std.proofs.Common.{append_assoc, pow_pos}
use Rattle.bits.specs.Codec.{Codec}
use Rattle.bits.specs.CodecLaws.{field, then, ranged, fixed}
use Rattle.bits.specs.Block.{Block}
use Rattle.outcome.specs.Refusals.{bad_pores}
use Rattle.pores_elements.specs.Before.{Before}
use Rattle.pores_elements.proofs.BeforeLaws.{until, marked, row, closed}
use Rattle.pores_elements.specs.Element.{stop}
use Rattle.pores_elements.proofs.ElementLaws.{distance, distance_bits, distance_goes, stop_zero, stop_zeros}

-- ---- a line, and the lines

abbrev pub line : (e : ℕ) → Before (stop e) (List ℕ)
line e = marked (fixed bad_pores e 0) (until (distance e) (stop e) bad_pores (distance_bits e) (distance_goes e)) (pow_pos e)

abbrev pub lines : (e n : ℕ) → Block (List (List ℕ))
lines e n = closed (row (line e) (λ ds r. rw append_assoc (stop_zero e _)) n) bad_pores (stop_zeros e)

-- ---- the payload

-- resolution and e
abbrev pub front : Codec Bool (ℕ × ℕ)
front = then (field bad_pores 16) λ _. ranged bad_pores 8 2 8
