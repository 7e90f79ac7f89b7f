-- The refusals 1 to 12 with their places, computed: what reading makes of records that break one rule each. There is a row for each
-- kind of place, and 6 has one where nothing is left, at the record's end. 9 needs over 1,024 lines, and is a law of the kit
-- (many-over).
use mathlib.Core.Path.{◌≡◌, refl}
use Prim.Native.Nat.{ℕ, ◌+◌}
use mathlib.Core.List.{List, [], ◌∷◌, ◌++◌, map}
use lib.ListN.{set, take}
use Rattle.bits.specs.Bits.{number_of_bits, bits_of_number}
use Rattle.bits.specs.Bytes.{bits_of}
use Rattle.bits.specs.Codec.{then_dec, via_dec, only_dec, judged_dec, whole_dec, room_dec}
use Rattle.bits.specs.Block.{ended_dec, sized_dec}
use Rattle.outcome.specs.Outcome.{Outcome, refused, given}
use Rattle.format.specs.Limits.{most_lines, least_bytes, most_bytes}
use Rattle.format.specs.Line.{end, line, skeleton}
use Rattle.format.specs.Index.{index, index_block}
use Rattle.format.specs.Segments.{segment, segments}
use Rattle.format.specs.View.{view, view_header}
use Rattle.format.specs.Record.{header, views, record_of, read}
use Rattle.format.specs.Call.{on_record}
use Rattle.format.specs.Sample.{sample_a, header_a, view_header_a, lines_a, bare}

abbrev verdict : List ℕ × Outcome ℕ → Outcome ℕ
verdict row = on_record (λ r. given []) row.0

abbrev expected : List ℕ × Outcome ℕ → Outcome ℕ
expected row = row.1

abbrev accepted : Outcome ℕ
accepted = given []

-- sample A with byte p set to v
abbrev A : ℕ → ℕ → List ℕ
A p v = set sample_a p v

-- the first n bytes of A, with that length
abbrev cut : ℕ → List ℕ
cut n = set (take n sample_a) 11 n

-- a view without lines: its number and its position
abbrev pub bare_view : ℕ → ℕ → List ℕ
bare_view number position = number ∷ position ∷ 0x00 ∷ 0x50 ∷ 0x01 ∷ 0x00 ∷ 0x01 ∷ 0x00 ∷ 0x00 ∷ 0x00 ∷ 0x00 ∷ 0x00 ∷ 0x00 ∷ 0x00 ∷ []

abbrev two : List ℕ → List ℕ → List ℕ
two v w = set (header_a 52 8) 14 2 ++ v ++ w

-- A with an index block of 3 bytes: w is 1, then the two given; the lists of the two lines take the first three bits of these
abbrev long_index : ℕ → ℕ → List ℕ
long_index x y = header_a 57 8 ++ view_header_a 16 ++ lines_a 2 ++ 0x00 ∷ 0x03 ∷ 0x01 ∷ x ∷ y ∷ 0x00 ∷ 0x00 ∷ []

-- a view without lines, with n bytes of extended data
abbrev extended : ℕ → List ℕ → List ℕ
extended n bytes = set (set (bare 8) 11 (38 + n)) 37 n ++ bytes

abbrev table : List (List ℕ × Outcome ℕ)
table =
    -- accepted
    (sample_a, accepted) ∷ (bare 4, accepted) ∷ (A 26 9, accepted) ∷ (A 27 100, accepted) ∷ (A 53 0xB0, accepted)
    ∷ (two (bare_view 0 2) (bare_view 1 2), accepted) ∷ (two (bare_view 0 2) (bare_view 0 3), accepted) ∷ (two (bare_view 0 0) (bare_view 1 0), accepted)
    -- 1
    ∷ ([], refused 1 0) ∷ (take 23 sample_a, refused 1 0)
    -- 2, 3, 4
    ∷ (A 0 0x47, refused 2 0) ∷ (A 7 0x01, refused 3 32) ∷ (A 11 0x39, refused 4 64)
    -- 5: views, points per cm, c, b, k, step, N, reserved
    ∷ (A 14 0, refused 5 112) ∷ (A 15 0, refused 5 120) ∷ (A 16 0, refused 5 128) ∷ (A 16 17, refused 5 128) ∷ (A 17 3, refused 5 136)
    ∷ (A 17 9, refused 5 136) ∷ (A 18 1, refused 5 144) ∷ (A 18 9, refused 5 144) ∷ (A 19 0, refused 5 152) ∷ (A 21 0, refused 5 168)
    ∷ (A 22 1, refused 5 176) ∷ (A 23 1, refused 5 176)
    -- 6: view header, skeleton, index length, index, extended length, extended block; nothing or something is left of each
    ∷ (cut 24, refused 6 192) ∷ (cut 33, refused 6 192) ∷ (cut 34, refused 6 272) ∷ (cut 49, refused 6 272) ∷ (cut 50, refused 6 400)
    ∷ (cut 51, refused 6 400) ∷ (cut 52, refused 6 416) ∷ (cut 53, refused 6 416) ∷ (cut 54, refused 6 432) ∷ (cut 55, refused 6 432)
    ∷ (A 55 1, refused 6 448) ∷ (set (extended 1 (0x00 ∷ [])) 37 2, refused 6 304)
    -- 7: number, position, impression, quality
    ∷ (A 24 1, refused 7 192) ∷ (A 25 11, refused 7 200) ∷ (A 26 4, refused 7 208) ∷ (A 26 10, refused 7 208) ∷ (A 27 101, refused 7 216)
    ∷ (two (bare_view 0 2) (bare_view 0 2), refused 7 304) ∷ (two (bare_view 0 2) (bare_view 1 3), refused 7 304)
    -- 8: 255 codes; eight zero bits are no padding; a padding bit that is 1
    ∷ (A 45 0xF0, refused 8 336)
    ∷ (header_a 47 8 ++ view_header_a 9 ++ lines_a 1 ++ 0x00 ∷ 0x00 ∷ 0x00 ∷ 0x00 ∷ 0x00 ∷ [], refused 8 336)
    ∷ (header_a 47 8 ++ view_header_a 9 ++ 0x50 ∷ 0x02 ∷ 0x85 ∷ 0x00 ∷ 0xA2 ∷ 0x4C ∷ 0x00 ∷ 0xE1 ∷ 0x41 ∷ 0x00 ∷ 0x00 ∷ 0x00 ∷ 0x00 ∷ [], refused 8 343)
    -- 10: w; a difference above its line, a second difference of 0; a difference and a count past the block
    ∷ (A 52 0, refused 10 416) ∷ (A 52 17, refused 10 416) ∷ (A 53 0xE0, refused 10 425) ∷ (set (A 52 2) 53 0x24, refused 10 430)
    ∷ (A 52 8, refused 10 432) ∷ (set (A 52 8) 53 0x00, refused 10 432)
    -- a leftover bit that is 1, of a few and of more than seven; the eighth of zeros; a 1 behind the eighth, the last
    ∷ (A 53 0x61, refused 10 431) ∷ (long_index 0x64 0x00, refused 10 429) ∷ (long_index 0x60 0x00, refused 10 434) ∷ (long_index 0x60 0x01, refused 10 439)
    -- 11: a length under 4, past its block, the same of a second segment; bytes over
    ∷ (extended 4 (0x00 ∷ 0x03 ∷ 0x00 ∷ 0x03 ∷ []), refused 11 320) ∷ (extended 4 (0x00 ∷ 0x03 ∷ 0x00 ∷ 0x05 ∷ []), refused 11 320)
    ∷ (extended 8 (0x00 ∷ 0x03 ∷ 0x00 ∷ 0x04 ∷ 0x00 ∷ 0x03 ∷ 0x00 ∷ 0x05 ∷ []), refused 11 352) ∷ (extended 3 (0x00 ∷ 0x03 ∷ 0x00 ∷ []), refused 11 304)
    ∷ (extended 5 (0x00 ∷ 0x03 ∷ 0x00 ∷ 0x04 ∷ 0xFF ∷ []), refused 11 336) ∷ (extended 5 (0x00 ∷ 0x03 ∷ 0x00 ∷ 0x05 ∷ 0xFF ∷ []), accepted)
    -- 12
    ∷ (set (bare 8) 11 39 ++ 0x00 ∷ [], refused 12 304)
    ∷ []

verdicts : map verdict table ≡ map expected table
unfolding number_of_bits bits_of_number bits_of then_dec via_dec only_dec judged_dec whole_dec room_dec ended_dec sized_dec most_lines least_bytes most_bytes end line skeleton index index_block segment segments view view_header header views record_of read on_record
verdicts = refl
