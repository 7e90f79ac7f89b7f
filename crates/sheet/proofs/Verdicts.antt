-- The refusals 21 and 22, computed: which number a sheet gets that differs from sample A's in one point.
use mathlib.Core.Path.{◌≡◌, refl}
use Prim.Native.Nat.{ℕ}
use mathlib.Core.List.{List, [], ◌∷◌, ◌++◌, map}
use lib.ListN.{set, take, drop}
use Rattle.bits.specs.Bits.{number_of_bits, bits_of_number}
use Rattle.bits.specs.Bytes.{bits_of, bytes_of}
use Rattle.bits.specs.Codec.{then_dec, via_dec, only_dec, judged_dec}
use Rattle.bits.specs.Block.{ended_dec, ahead_dec, pass_dec, recast_dec}
use Rattle.outcome.specs.Outcome as O
use Rattle.format.specs.Limits.{most_lines, most_bytes}
use Rattle.format.specs.Line.{end, line, skeleton}
use Rattle.format.specs.Index.{index, index_block}
use Rattle.format.specs.Segments.{segment, segments}
use Rattle.format.specs.View.{view, view_header}
use Rattle.format.specs.Record.{header, views, record_of, size, write}
use Rattle.sheet.specs.Fields.{tagged, fields}
use Rattle.sheet.specs.Grammar.{grammar}
use Rattle.sheet_codes.specs.Code.{sign_extended}
use Rattle.sheet.specs.Values.{header_value, view_head_value, line_value, width_value, list_value, segment_value}
use Rattle.sheet.specs.Sheet.{view_from, record_from, read_sheet, writing}
use Rattle.sheet.specs.Sample.{sheet_a}

abbrev verdict : List ℕ × ℕ → ℕ
verdict row = O.number_of (writing row.0)

abbrev expected : List ℕ × ℕ → ℕ
expected row = row.1

-- A's sheet with byte p set to v
abbrev A : ℕ → ℕ → List ℕ
A p v = set sheet_a p v

abbrev table : List (List ℕ × ℕ)
table =
    -- as it is; without index; with a segment; line 1 next to itself
    (sheet_a, 0) ∷ (take 55 sheet_a, 0) ∷ (sheet_a ++ 0x06 ∷ 0x00 ∷ 0x02 ∷ 0x00 ∷ 0x03 ∷ [], 0) ∷ (A 66 1, 0)
    -- 21: empty; no view; a field cut; another tag first, in the middle
    ∷ ([], 21) ∷ (take 12 sheet_a, 21) ∷ (take 66 sheet_a, 21) ∷ (A 0 2, 21) ∷ (A 23 7, 21)
    -- 21: one 05 too few, one too many, an 05 without 04, a line behind the index, a second 04
    ∷ (take 62 sheet_a, 21) ∷ (sheet_a ++ 0x05 ∷ 0x00 ∷ 0x00 ∷ [], 21) ∷ (take 55 sheet_a ++ 0x05 ∷ 0x00 ∷ 0x00 ∷ [], 21)
    ∷ (sheet_a ++ drop 23 (take 39 sheet_a), 21) ∷ (sheet_a ++ 0x04 ∷ 0x00 ∷ 0x01 ∷ 0x01 ∷ [], 21)
    -- 21: a short 06, a second 01, an 05 of odd length
    ∷ (sheet_a ++ 0x06 ∷ 0x00 ∷ 0x01 ∷ 0x00 ∷ [], 21) ∷ (sheet_a ++ take 12 sheet_a, 21) ∷ (take 62 sheet_a ++ 0x05 ∷ 0x00 ∷ 0x01 ∷ 0x00 ∷ [], 21)
    -- 22: b = 3; a direction above b = 4; x above c = 3; quality; type; w
    ∷ (A 7 3, 22) ∷ (A 7 4, 22) ∷ (A 6 3, 22) ∷ (A 18 101, 22) ∷ (A 26 4, 22) ∷ (A 58 0, 22) ∷ (A 58 17, 22)
    -- codes at k = 4: 8 is no code's byte, F8 is; 22: a neighbour above its line
    ∷ (A 38 0x08, 22) ∷ (A 38 0xF8, 0) ∷ (A 66 2, 22)
    -- 21 comes before 22
    ∷ (take 66 (A 26 4), 21)
    ∷ []

verdicts : map verdict table ≡ map expected table
unfolding number_of_bits bits_of_number bits_of bytes_of then_dec via_dec only_dec judged_dec ended_dec ahead_dec pass_dec recast_dec most_lines most_bytes end line skeleton index index_block segment segments view view_header header views record_of size write tagged fields grammar header_value view_head_value line_value width_value list_value segment_value view_from record_from read_sheet writing sign_extended
verdicts = refl
