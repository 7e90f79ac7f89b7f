-- Orders, computed: the refusals 13 to 18 in their order, and the records that accepted orders leave.
use mathlib.Core.Path.{◌≡◌, refl}
use Prim.Native.Nat.{ℕ, ◌+◌}
use mathlib.Core.List.{List, [], ◌∷◌, ◌++◌, map}
use lib.ListN.{length, set}
use Rattle.bits.specs.Bits.{number_of_bits, bits_of_number}
use Rattle.bits.specs.Bytes.{bits_of, bytes_of}
use Rattle.bits.specs.Codec.{then_dec, via_dec, only_dec, judged_dec, whole_dec, room_dec}
use Rattle.bits.specs.Block.{ended_dec, sized_dec, ahead_dec, recast_dec}
use Rattle.outcome.specs.Outcome.{Outcome, refused, given}
use Rattle.format.specs.Limits.{most_lines, least_bytes, most_bytes}
use Rattle.format.specs.Line.{end, line, skeleton}
use Rattle.format.specs.Index.{index, index_block}
use Rattle.format.specs.Segments.{segment, segments}
use Rattle.format.specs.View.{view, view_header}
use Rattle.format.specs.Record.{header, views, record_of, read, size, write}
use Rattle.format.specs.Named.{named}
use Rattle.format.specs.Call.{on_record, on_view}
use Rattle.format.specs.declared.ViewName.{ViewName}
use Rattle.format.specs.Sample.{sample_a, header_a, view_header_a, lines_a, wide, wider}
use Rattle.pores_elements.specs.Before.{marked_dec, closed_dec}
use Rattle.pores.specs.Payload.{pores_block}
use Rattle.pores.specs.Keep.{keep_segments, all_pores_right}
use Rattle.orders.specs.Least.{least_width}
use Rattle.orders.specs.Act.{Act, remove, join, part, near, after}
use Rattle.orders.specs.Order.{Order, edited, tests, all_tests, verdict, order}
use Rattle.orders.specs.SplitSample.{cells}

-- two lines: with an index of these bytes, and with these segments
abbrev pub two_lines : ℕ → List ℕ → List ℕ → List ℕ
two_lines n index segments = header_a n 8 ++ view_header_a 16 ++ lines_a 2 ++ index ++ segments

abbrev pub none : List ℕ
none = 0x00 ∷ 0x00 ∷ []

abbrev pub indexed : ℕ → List ℕ
indexed lists = 0x00 ∷ 0x02 ∷ 0x01 ∷ lists ∷ []

pub record Row : Type 0 where
  pub order : Order
  pub bytes : List ℕ
  pub gives : Outcome ℕ

abbrev row_of : ViewName → (count : ℕ) → Act → List ℕ → Outcome ℕ → Row
row_of view count a bytes o = record { order = record { view = view; count = count; act = a }; bytes = bytes; gives = o }

-- on A's view, which is the first of finger 2, for a count of two lines
abbrev row : Act → List ℕ → Outcome ℕ → Row
row a bytes o = row_of (named 2 0) 2 a bytes o

abbrev parted : List ℕ
parted = two_lines 56 (indexed 0x00) none

-- ---- views with segments: sample A with this extended block of under 256 bytes, and what is left of it without its lines

abbrev with_segments : List ℕ → List ℕ
with_segments x = two_lines (56 + length x) (indexed 0x60) (0x00 ∷ length x ∷ x)

abbrev emptied : List ℕ → List ℕ
emptied x = header_a (39 + length x) 8 ++ view_header_a 0 ++ 0x00 ∷ 0x01 ∷ 0x01 ∷ 0x00 ∷ length x ∷ x

-- `cells` with a width of 0, which no payload may have
abbrev broken : List ℕ
broken = 0x00 ∷ 0x03 ∷ 0x00 ∷ 0x08 ∷ 0x00 ∷ 0x80 ∷ 0x02 ∷ 0x1B ∷ []

-- a segment of this type, without payload
abbrev of_type : (high low : ℕ) → List ℕ
of_type high low = high ∷ low ∷ 0x00 ∷ 0x04 ∷ []

-- the pores of two lines, of 1 and 1 and of 7 each; of the first alone; of none
abbrev pores : List ℕ
pores = 0x00 ∷ 0x04 ∷ 0x00 ∷ 0x0A ∷ 0x01 ∷ 0xF4 ∷ 0x04 ∷ 0x01 ∷ 0x10 ∷ 0x70 ∷ []

abbrev pores_of_first : List ℕ
pores_of_first = 0x00 ∷ 0x04 ∷ 0x00 ∷ 0x09 ∷ 0x01 ∷ 0xF4 ∷ 0x04 ∷ 0x01 ∷ 0x10 ∷ []

abbrev pores_of_none : List ℕ
pores_of_none = 0x00 ∷ 0x04 ∷ 0x00 ∷ 0x07 ∷ 0x01 ∷ 0xF4 ∷ 0x04 ∷ []

-- ---- two scans of one finger: right index 0 and 1, each A's view with these bits for its lists

abbrev scan : (number lists : ℕ) → List ℕ
scan number lists = set (view_header_a 16) 0 number ++ lines_a 2 ++ indexed lists ++ none

abbrev scans : ℕ → ℕ → List ℕ
scans first second = set (header_a 88 8) 14 2 ++ scan 0 first ++ scan 1 second

abbrev table : List Row
table =
    -- the record's own refusal first, with its place
    row (remove (0 ∷ [])) (set sample_a 17 3) (refused 5 136)
    -- 13: another finger, another number, the two exchanged, and numbers of more than 8 bits; 14
    ∷ row_of (named 1 0) 0 (remove []) sample_a (refused 13 0) ∷ row_of (named 2 1) 0 (remove []) sample_a (refused 13 0)
    ∷ row_of (named 0 2) 0 (remove []) sample_a (refused 13 0) ∷ row_of (named 258 0) 0 (remove []) sample_a (refused 13 0)
    ∷ row_of (named 2 256) 0 (remove []) sample_a (refused 13 0) ∷ row_of (named 2 0) 3 (remove []) sample_a (refused 14 0)
    -- each scan by its name
    ∷ row_of (named 2 0) 2 (part 0 1) (scans 0x60 0x60) (given (scans 0x00 0x60))
    ∷ row_of (named 2 1) 2 (part 0 1) (scans 0x60 0x60) (given (scans 0x60 0x00))
    ∷ row_of (named 2 1) 2 (join 0 1) (scans 0x00 0x60) (refused 18 0) ∷ row_of (named 2 2) 2 (part 0 1) (scans 0x60 0x60) (refused 13 0)
    -- 15, also before 16
    ∷ row (remove []) (with_segments (of_type 0x00 0x05)) (refused 15 0) ∷ row (remove (2 ∷ [])) sample_a (refused 15 0)
    ∷ row (remove (0 ∷ 0 ∷ [])) sample_a (refused 15 0) ∷ row (remove (1 ∷ 0 ∷ [])) sample_a (refused 15 0)
    ∷ row (join 0 2) sample_a (refused 15 0) ∷ row (part 2 0) sample_a (refused 15 0)
    -- 16
    ∷ row (remove (0 ∷ [])) (with_segments (of_type 0x00 0x05)) (refused 16 0)
    ∷ row (remove (0 ∷ [])) (with_segments (of_type 0x00 0x02)) (refused 16 0)
    ∷ row (remove (0 ∷ [])) (with_segments (of_type 0x01 0x03)) (refused 16 0)
    ∷ row (remove (0 ∷ [])) (with_segments (of_type 0x03 0x00)) (refused 16 0)
    -- 16 where one of two has another type, the second or the first
    ∷ row (remove (0 ∷ [])) (with_segments (cells ++ of_type 0x00 0x05)) (refused 16 0)
    ∷ row (remove (0 ∷ [])) (with_segments (of_type 0x00 0x05 ++ cells)) (refused 16 0)
    -- 17, also before 15
    ∷ row (join 0 1) (two_lines 54 none none) (refused 17 0) ∷ row (part 0 2) (two_lines 54 none none) (refused 17 0)
    -- 18
    ∷ row (join 0 1) sample_a (refused 18 0) ∷ row (join 1 0) sample_a (refused 18 0) ∷ row (part 0 0) sample_a (refused 18 0)
    -- parted, joined, a line next to itself; segments are no hindrance to a pair
    ∷ row (part 1 0) sample_a (given parted) ∷ row (join 1 0) parted (given sample_a)
    ∷ row (join 1 1) parted (given (two_lines 56 (indexed 0x40) none))
    ∷ row (part 0 1) (with_segments (of_type 0x00 0x05)) (given (two_lines 60 (indexed 0x00) (0x00 ∷ 0x04 ∷ of_type 0x00 0x05)))
    -- all lines removed: an index stays, and stays absent
    ∷ row (remove (0 ∷ 1 ∷ [])) sample_a (given (emptied []))
    ∷ row (remove (0 ∷ 1 ∷ [])) (two_lines 54 none none) (given (header_a 38 8 ++ view_header_a 0 ++ none ++ none))
    -- local quality is carried: well formed, broken, without payload, twice
    ∷ row (remove (0 ∷ 1 ∷ [])) (with_segments cells) (given (emptied cells))
    ∷ row (remove (0 ∷ 1 ∷ [])) (with_segments broken) (given (emptied broken))
    ∷ row (remove (0 ∷ 1 ∷ [])) (with_segments (of_type 0x00 0x03)) (given (emptied (of_type 0x00 0x03)))
    ∷ row (remove (0 ∷ 1 ∷ [])) (with_segments (cells ++ broken)) (given (emptied (cells ++ broken)))
    ∷ row (remove (1 ∷ [])) (with_segments cells)
    (given (header_a 56 8 ++ view_header_a 8 ++ lines_a 1 ++ indexed 0x00 ++ 0x00 ∷ 0x08 ∷ cells))
    -- pores go with their lines, in every segment, and the others' stay
    ∷ row (remove (0 ∷ 1 ∷ [])) (with_segments pores) (given (emptied pores_of_none))
    ∷ row (remove (0 ∷ 1 ∷ [])) (with_segments (pores ++ cells ++ pores)) (given (emptied (pores_of_none ++ cells ++ pores_of_none)))
    ∷ row (remove (1 ∷ [])) (with_segments pores)
    (given (header_a 57 8 ++ view_header_a 8 ++ lines_a 1 ++ indexed 0x00 ++ 0x00 ∷ 0x09 ∷ pores_of_first))
    -- 26: no payload, or one of other lines, the second or the first; after 15 and 16
    ∷ row (remove (0 ∷ [])) (with_segments (of_type 0x00 0x04)) (refused 26 0) ∷ row (remove (0 ∷ [])) (with_segments pores_of_none) (refused 26 0)
    ∷ row (remove (0 ∷ [])) (with_segments (pores ++ pores_of_none)) (refused 26 0) ∷ row (remove (0 ∷ [])) (with_segments (pores_of_none ++ cells)) (refused 26 0)
    ∷ row (remove (2 ∷ [])) (with_segments pores_of_none) (refused 15 0)
    ∷ row (remove (0 ∷ [])) (with_segments (pores_of_none ++ of_type 0x00 0x05)) (refused 16 0)
    ∷ row (remove (0 ∷ [])) (with_segments (of_type 0x00 0x05 ++ pores_of_none)) (refused 16 0)
    -- they are no hindrance to a pair, broken or not
    ∷ row (part 0 1) (with_segments pores_of_none) (given (two_lines 63 (indexed 0x00) (0x00 ∷ 0x07 ∷ pores_of_none)))
    -- a removal that lengthens the index
    ∷ row_of (named 2 0) 31 (remove (15 ∷ [])) wide (given wider)
    ∷ []

abbrev computed : Row → Outcome ℕ
computed r = order r.order r.bytes

abbrev expected : Row → Outcome ℕ
expected r = r.gives

verdicts : map computed table ≡ map expected table
unfolding number_of_bits bits_of_number bits_of bytes_of then_dec via_dec only_dec judged_dec whole_dec room_dec ended_dec sized_dec ahead_dec recast_dec marked_dec closed_dec pores_block keep_segments all_pores_right most_lines least_bytes most_bytes end line skeleton index index_block segment segments view view_header header views record_of read size write on_record on_view least_width near after edited tests all_tests verdict order
verdicts = refl
