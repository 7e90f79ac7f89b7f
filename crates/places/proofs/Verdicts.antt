-- The reach is the least, computed: for each number that has one, two records that differ first in the last bit within reach, of
-- which only one is refused. And two that are refused by 10 at different places, though they agree up to the reach.
use mathlib.Core.Path.{◌≡◌, refl}
use Prim.Native.Nat.{ℕ, ◌+◌, ◌-◌}
use mathlib.Core.List.{List, [], ◌∷◌, ◌++◌, map}
use lib.ListN.{set, take}
use Rattle.bits.specs.Bits.{Bits, number_of_bits, bits_of_number}
use Rattle.bits.specs.Bytes.{bits_of}
use Rattle.bits.specs.Codec.{then_dec, via_dec, only_dec, judged_dec, whole_dec, room_dec}
use Rattle.bits.specs.Block.{ended_dec, sized_dec}
use Rattle.outcome.specs.Outcome.{Outcome, refused, given}
use Rattle.format.specs.Limits.{most_lines, least_bytes, most_bytes}
use Rattle.format.specs.Line.{end, line, skeleton}
use Rattle.format.specs.Index.{index, index_block}
use Rattle.format.specs.Segments.{segment, segments}
use Rattle.format.specs.View.{view, view_header}
use Rattle.format.specs.Record.{header, views, record_of, read}
use Rattle.format.specs.Call.{on_record}
use Rattle.format.specs.Sample.{sample_a, header_a, view_header_a, lines_a, bare}
use Rattle.places.specs.Reach.{reach}

abbrev verdict : List ℕ → Outcome ℕ
verdict bytes = on_record (λ r. given []) bytes

-- sample A with byte p set to v
abbrev A : ℕ → ℕ → List ℕ
A p v = set sample_a p v

-- two views without lines, of which the second is number 1 and has a position
abbrev position : ℕ → List ℕ
position p = set (header_a 52 8) 14 2 ++ bare_view 0 2 ++ bare_view 1 p
  where
    bare_view : ℕ → ℕ → List ℕ
    bare_view n q = n ∷ q ∷ 0x00 ∷ 0x50 ∷ 0x01 ∷ 0x00 ∷ 0x01 ∷ 0x00 ∷ 0x00 ∷ 0x00 ∷ 0x00 ∷ 0x00 ∷ 0x00 ∷ 0x00 ∷ []

-- a line at the greatest widths, c 16, b 8 and k 8, in 12 bytes: no code fits; the count's last bit is the second of the seventh byte
abbrev codes : ℕ → List ℕ
codes n =
    set (set (header_a 50 8) 16 16) 18 8 ++ view_header_a 12
    ++ 0x00 ∷ 0x00 ∷ 0x00 ∷ 0x00 ∷ 0x00 ∷ 0x00 ∷ n ∷ 0x00 ∷ 0x00 ∷ 0x00 ∷ 0x00 ∷ 0x00 ∷ 0x00 ∷ 0x00 ∷ 0x00 ∷ 0x00 ∷ []

-- a line, and an index of five bytes
abbrev indexed : List ℕ → List ℕ
indexed bytes = header_a 51 8 ++ view_header_a 8 ++ lines_a 1 ++ 0x00 ∷ 0x05 ∷ bytes ++ 0x00 ∷ 0x00 ∷ []

-- a segment of four bytes, which says that it has n
abbrev segment_of : ℕ → List ℕ
segment_of n = set (set (bare 8) 11 42) 37 4 ++ 0x00 ∷ 0x03 ∷ 0x00 ∷ n ∷ []

-- an index of one list without neighbours, and 31 leftover bits
abbrev leftover : ℕ → List ℕ
leftover last = indexed (0x01 ∷ 0x00 ∷ 0x00 ∷ 0x00 ∷ last ∷ [])

abbrev accepted : Outcome ℕ
accepted = given []

-- a record, another, the number and the place of the one's refusal, and what is said of the other
abbrev Row : Type 0
Row = List ℕ × (List ℕ × (ℕ × (ℕ × Outcome ℕ)))

abbrev verdicts_of : Row → Outcome ℕ × Outcome ℕ
verdicts_of (one, (other, (e, (p, o)))) = (verdict one, verdict other)

abbrev expected : Row → Outcome ℕ × Outcome ℕ
expected (one, (other, (e, (p, o)))) = (refused e p, o)

-- the bits of both within reach, without the last
abbrev bits_one : Row → Bits
bits_one (one, (other, (e, (p, o)))) = take (p + reach e - 1) (bits_of one)

abbrev bits_other : Row → Bits
bits_other (one, (other, (e, (p, o)))) = take (p + reach e - 1) (bits_of other)

abbrev table : List Row
table =
    (A 3 0x01, (sample_a, (2, (0, accepted)))) ∷ (A 7 0x01, (sample_a, (3, (32, accepted)))) ∷ (A 11 0x39, (sample_a, (4, (64, accepted))))
    ∷ (A 23 0x01, (sample_a, (5, (176, accepted)))) ∷ (position 3, (position 2, (7, (304, accepted)))) ∷ (codes 0x40, (codes 0x00, (8, (272, accepted))))
    ∷ (indexed (0x10 ∷ 0x00 ∷ 0x01 ∷ 0x00 ∷ 0x01 ∷ []), (indexed (0x10 ∷ 0x00 ∷ 0x01 ∷ 0x00 ∷ 0x00 ∷ []), (10, (376, accepted))))
    ∷ (segment_of 5, (segment_of 4, (11, (320, accepted))))
    -- the eighth leftover bit, and a 1 beyond the reach behind it
    ∷ (leftover 0x00, (leftover 0x01, (10, (368, refused 10 391)))) ∷ []

verdicts : map verdicts_of table ≡ map expected table
unfolding number_of_bits bits_of_number bits_of then_dec via_dec only_dec judged_dec whole_dec room_dec ended_dec sized_dec most_lines least_bytes most_bytes end line skeleton index index_block segment segments view view_header header views record_of read on_record
verdicts = refl

agree : map bits_one table ≡ map bits_other table
unfolding bits_of_number bits_of reach
agree = refl

leftover_agree : take (368 + reach 10) (bits_of (leftover 0x00)) ≡ take (368 + reach 10) (bits_of (leftover 0x01))
unfolding bits_of_number bits_of reach
leftover_agree = refl
