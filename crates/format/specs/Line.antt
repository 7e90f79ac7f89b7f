-- A line of a skeleton block, and the block. "Each line: start type (2 bits), direction (b), x (c), y (c), count of codes (8), the
-- codes (k each), end type (2), direction (b), x (c), y (c). Lines follow without padding. While 8 or more bits are left, another
-- line must be there; the last 0 to 7 bits are zero. At most 1,024 lines."
use Rattle.std.specs.Prelude.{ℕ, ◌+◌, ◌≤◌, Bool, List, length}
use Rattle.std.proofs.Common.{arith, length-append}
use Rattle.bits.specs.BitsLaws.{length_bits}
use Rattle.bits.specs.Codec.{Codec}
use Rattle.bits.specs.CodecLaws.{field, then, via, counted}
use Rattle.bits.specs.RefusingLaws.{whole}
use Rattle.bits.specs.Block.{Block}
use Rattle.bits.proofs.BlockLaws.{many}
use Rattle.outcome.specs.Refusals.{bad_line, too_many_lines}
use Rattle.format.specs.Limits.{most_lines}
pub use Rattle.format.specs.Parts.{EndFits, Line, FitsEnd, FitsLine}
use Rattle.format.specs.Parts.{end_numbers, make_end, numbers_of_end, make_line, parts_of_line}
use Rattle.format.specs.PartsLaws.{end_matches, line_matches}
use Rattle.format.specs.declared.Widths.{Widths}
use Rattle.format.specs.declared.End.{End}

-- an end, whatever codecs its numbers have
abbrev pub end_of : (kind direction x : Codec Bool ℕ) → Codec Bool End
end_of kind direction x =
    via (end_numbers kind direction x) make_end numbers_of_end (EndFits kind.Fits direction.Fits x.Fits) (end_matches kind direction x)

unfoldable pub end : Widths → Codec Bool End
end w = end_of (field bad_line 2) (field bad_line w.b) (field bad_line w.c)

-- the bits of an end
abbrev pub end_bits : Widths → ℕ
end_bits w = 2 + (w.b + (w.c + w.c))

-- where a part of a line doesn't fit, the line doesn't: a refusal's place is the line's first bit
unfoldable pub line : Widths → Codec Bool Line
unfolding end
line w =
    whole
    (via (then (end w) λ _. then (counted (field bad_line 8) (field bad_line w.k)) λ _. end w) make_line parts_of_line (FitsLine w) (line_matches w))

-- ---- the block

pub line_long_lem : (w : Widths) (l : Line) → 8 ≤ length ((line w).enc l)
unfolding line end
line_long_lem w l = simp (length-append, length_bits) (omega arith)

unfoldable pub skeleton : Widths → Block (List Line)
skeleton w = many (line w) bad_line too_many_lines most_lines (line_long_lem w)
