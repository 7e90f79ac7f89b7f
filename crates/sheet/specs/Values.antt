-- The values of a sheet's fields: refusal 22. "A sheet value is right when the record rules allow it at the widths given: numbers
-- fit c, b, k and w, neighbours obey clause 6.3.2." Each value is a block of its own, and its rules are the record's.
use Rattle.std.specs.Prelude.{ℕ, ◌+◌, ◌%◌, ◌^◌, Bool, true, ◌&&◌, List, [], ◌∷◌, length, leb, ltb}
use Rattle.bits.specs.Lists.{every, all_true}
use Rattle.bits.specs.Codec.{Codec}
use Rattle.bits.specs.CodecLaws.{field, then, via, only, ranged}
use Rattle.bits.specs.Block.{Block}
use Rattle.bits.proofs.BlockLaws.{ended, fill}
use Rattle.bits.specs.SizedLaws.{ahead, pass, recast}
use Rattle.outcome.specs.Refusals.{bad_value}
use Rattle.format.specs.Line.{Line, end_of}
use Rattle.differences.specs.Differences.{diffs}
use Rattle.format.specs.Segments.{Segment}
use Rattle.format.specs.View.{head_fields}
use Rattle.format.specs.Record.{FitsHeader, scale}
use Rattle.format.specs.declared.Widths.{Widths}
use Rattle.format.specs.declared.End.{End}
use Rattle.format.specs.declared.Header.{Header}
use Rattle.format.specs.declared.ViewHeader.{ViewHeader}
pub use Rattle.sheet_codes.specs.Code.{CodeValue}
use Rattle.sheet_codes.specs.Code.{sign_extended, code_ok}
use Rattle.sheet_codes.proofs.CodeLaws.{code_matches}
pub use Rattle.sheet.specs.Parts.{Below, EndValue, LineValue, SegmentValue}
use Rattle.sheet.specs.Parts.{header_of_value, value_of_header, line_of_value, value_of_line, segment_of_value, value_of_segment}
use Rattle.sheet.specs.PartsLaws.{header_value_matches, line_value_matches, segment_value_matches, byte_some, byte_whole, two_some, two_whole, ends_whole}

-- ---- 01: "record bytes 12-13, then 15 to 21"

unfoldable pub header_value : Block Header
header_value = ended (via (then (field bad_value 16) λ _. scale bad_value) header_of_value value_of_header FitsHeader header_value_matches) bad_value

-- ---- 02: "view header without skeleton length"

unfoldable pub view_head_value : (ℕ → ℕ) → Block ViewHeader
view_head_value earlier = ended (head_fields bad_value earlier) bad_value

-- ---- 03: "start type, direction, x (2), y (2), end type, direction, x (2), y (2), then a byte for each code, two's complement"

-- a number written in w bits that needs at most m
abbrev pub few_bits : ℕ → ℕ → Codec Bool ℕ
few_bits w m = only (field bad_value w) bad_value (λ n. ltb n (2 ^ m))

abbrev pub end_value : Widths → Codec Bool End
end_value w = end_of (few_bits 8 2) (few_bits 8 w.b) (few_bits 16 w.c)

-- a code of k bits, as its byte
abbrev pub code_value : ℕ → Codec Bool ℕ
code_value k = via (only (field bad_value 8) bad_value (code_ok k)) (λ x. x % 2 ^ k) (sign_extended k) (CodeValue k) (code_matches k)

abbrev pub codes_value : ℕ → Block (List ℕ)
codes_value k = fill (code_value k) bad_value (λ n. byte_some (sign_extended k n)) (λ n. byte_whole (sign_extended k n))

unfoldable pub line_value : Widths → Block Line
line_value w =
    recast (ahead (then (end_value w) λ _. end_value w) ends_whole (λ _. codes_value w.k)) line_of_value value_of_line (LineValue w) (line_value_matches w)

-- ---- 04: w; 05: "a line's neighbours by number, 2 bytes each, highest first"

unfoldable pub width_value : Block ℕ
width_value = ended (ranged bad_value 8 1 16) bad_value

-- the first at most l - m, each other below the one before
abbrev pub falls_ok : ℕ → ℕ → List ℕ → Bool
falls_ok m l [] = true
falls_ok m l (n ∷ ns) = leb (n + m) l && falls_ok 1 n ns

-- line l's neighbours at width w
abbrev pub list_ok : ℕ → ℕ → List ℕ → Bool
list_ok w l ns = all_true (falls_ok 0 l ns ∷ ltb (length ns) (2 ^ w) ∷ every (λ d. ltb d (2 ^ w)) (diffs l ns) ∷ [])

unfoldable pub list_value : ℕ → ℕ → Block (List ℕ)
list_value w l = pass (fill (field bad_value 16) bad_value two_some two_whole) bad_value (list_ok w l)

-- ---- 06: "segment type, payload"

unfoldable pub segment_value : Block Segment
segment_value =
    recast (ahead (field bad_value 16) two_whole (λ _. fill (field bad_value 8) bad_value byte_some byte_whole)) segment_of_value value_of_segment SegmentValue
    segment_value_matches
