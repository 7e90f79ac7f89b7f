-- Checks, computed: a row on each side of each rule's b and of the rules' numbers, 30 before all else, and each of 1 to 12 before 31, with
-- its place. 9 needs over 1,024 lines, and is a law of the record.
use mathlib.Core.Path.{◌≡◌, refl}
use Prim.Native.Nat.{ℕ}
use mathlib.Core.List.{List, [], ◌∷◌, ◌++◌, map}
use lib.ListN.{set, take}
use Rattle.bits.specs.Bits.{number_of_bits, bits_of_number}
use Rattle.bits.specs.Bytes.{bits_of}
use Rattle.bits.specs.Codec.{then_dec, via_dec, only_dec, judged_dec, whole_dec, room_dec}
use Rattle.bits.specs.Block.{ended_dec, sized_dec}
use Rattle.outcome.specs.Outcome.{Outcome, refused, given}
use Rattle.format.specs.Limits.{most_lines, least_bytes, most_bytes}
use Rattle.format.specs.Line.{end, line, skeleton}
use Rattle.format.specs.Index.{index, index_block}
use Rattle.format.specs.Segments.{segment, segments}
use Rattle.format.specs.View.{view, view_header}
use Rattle.format.specs.Record.{header, views, record_of, read}
use Rattle.format.specs.Call.{on_record}
use Rattle.format.specs.Sample.{sample_a, header_a, view_header_a, bare}
use Rattle.rule.specs.Check.{check}

-- what a check gives, and what it must give
abbrev Row : Type 0
Row = Outcome ℕ × Outcome ℕ

abbrev passed : Outcome ℕ
passed = given []

-- four bits of a direction: n bytes more than the bare record, behind the view header, which says so many bytes of lines
abbrev short : (n lines : ℕ) → List ℕ → List ℕ
short n lines bytes = set (header_a 38 4) 11 n ++ view_header_a lines ++ bytes

abbrev table : List Row
table =
    -- the rules' numbers
    (check 0 (bare 8), refused 30 0) ∷ (check 1 (bare 8), passed) ∷ (check 2 (bare 8), passed) ∷ (check 3 (bare 8), refused 30 0)
    ∷ (check 257 (bare 8), refused 30 0) ∷ (check 1 sample_a, passed) ∷ (check 2 sample_a, passed)
    -- b, from 4 and from 6
    ∷ (check 1 (bare 4), passed) ∷ (check 1 (bare 5), passed) ∷ (check 1 (bare 6), passed)
    ∷ (check 2 (bare 4), refused 31 0) ∷ (check 2 (bare 5), refused 31 0) ∷ (check 2 (bare 6), passed) ∷ (check 2 (bare 7), passed)
    ∷ (check 1 (bare 3), refused 5 136) ∷ (check 2 (bare 3), refused 5 136) ∷ (check 1 (bare 9), refused 5 136) ∷ (check 2 (bare 9), refused 5 136)
    -- 30 before all others
    ∷ (check 0 [], refused 30 0) ∷ (check 3 (set (bare 8) 0 0x47), refused 30 0) ∷ (check 3 (short 39 0 (0 ∷ 0 ∷ 0 ∷ 0 ∷ 0 ∷ [])), refused 30 0)
    ∷ (check 3 (bare 4), refused 30 0)
    -- 1 to 12 before 31
    ∷ (check 2 [], refused 1 0) ∷ (check 2 (take 23 (bare 4)), refused 1 0) ∷ (check 2 (set (bare 4) 0 0x47), refused 2 0) ∷ (check 2 (set (bare 4) 7 0x01), refused 3 32)
    ∷ (check 2 (set (bare 4) 11 0x27), refused 4 64) ∷ (check 2 (set (bare 4) 14 0), refused 5 112) ∷ (check 2 (set (bare 4) 23 1), refused 5 176)
    ∷ (check 2 (set (take 24 (bare 4)) 11 24), refused 6 192) ∷ (check 2 (set (bare 4) 25 11), refused 7 200) ∷ (check 2 (short 39 1 (0 ∷ 0 ∷ 0 ∷ 0 ∷ 0 ∷ [])), refused 8 272)
    ∷ (check 2 (short 39 0 (0 ∷ 1 ∷ 17 ∷ 0 ∷ 0 ∷ [])), refused 10 288) ∷ (check 2 (short 42 0 (0 ∷ 0 ∷ 0 ∷ 4 ∷ 0 ∷ 3 ∷ 0 ∷ 3 ∷ [])), refused 11 320)
    ∷ (check 2 (short 39 0 (0 ∷ 0 ∷ 0 ∷ 0 ∷ 0 ∷ [])), refused 12 304)
    ∷ []

pub verdicts : map (λ (row : Row). row.0) table ≡ map (λ (row : Row). row.1) table
unfolding check on_record record_of read header views view view_header skeleton line end index index_block segment segments most_lines least_bytes most_bytes bits_of number_of_bits bits_of_number then_dec via_dec only_dec judged_dec whole_dec room_dec ended_dec sized_dec
verdicts = refl
