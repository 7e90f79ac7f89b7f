-- Local quality, computed: what is read of payloads on each side of each rule, and the records that rewriting leaves.
use mathlib.Core.Path.{◌≡◌, refl}
use Prim.Native.Nat.{ℕ, ◌+◌}
use mathlib.Core.List.{List, [], ◌∷◌, ◌++◌, map}
use lib.ListN.{length, set}
use Rattle.bits.specs.Bits.{number_of_bits, bits_of_number}
use Rattle.bits.specs.Bytes.{bits_of, bytes_of}
use Rattle.bits.specs.Codec.{then_dec, via_dec, only_dec, judged_dec, whole_dec, room_dec}
use Rattle.bits.specs.Block.{ended_dec, sized_dec}
use Rattle.outcome.specs.Outcome.{Outcome, refused, given}
use Rattle.put_bytes.specs.HighFirst.{two}
use Rattle.format.specs.Limits.{most_lines, least_bytes, most_bytes}
use Rattle.format.specs.Line.{end, line, skeleton}
use Rattle.format.specs.Index.{index, index_block}
use Rattle.format.specs.Segments.{segment, segments}
use Rattle.format.specs.View.{view, view_header}
use Rattle.format.specs.Record.{header, views, record_of, read, size, write}
use Rattle.format.specs.Named.{named}
use Rattle.format.specs.Call.{on_record, on_view, on_segment}
use Rattle.format.specs.Sample.{header_a}
use Rattle.rewrite.specs.Rewrite.{rewritten, rewriting}
use Rattle.rewrite.specs.Called.{read_payload, set_payload}
use Rattle.quality_parts.specs.Parts.{cells}
use Rattle.quality.specs.Payload.{values, quality_block}
use Rattle.quality.specs.Quality.{quality, set_quality}

-- one view of that size, with these bytes of segments and nothing else
abbrev sized : (width height : ℕ) → List ℕ → List ℕ
sized width height extended =
    header_a (38 + length extended) 8 ++ 0x00 ∷ 0x02 ∷ 0x00 ∷ 0x50 ∷ (two width ++ two height ++ 0x00 ∷ 0x00 ∷ 0x00 ∷ 0x00 ∷ 0x00 ∷ length extended ∷ extended)

abbrev segment_of : (kind : ℕ) → List ℕ → List ℕ
segment_of kind payload = 0x00 ∷ kind ∷ 0x00 ∷ (4 + length payload) ∷ payload

-- 256 by 256 points, and one segment
abbrev with : (kind : ℕ) → List ℕ → List ℕ
with kind payload = sized 256 256 (segment_of kind payload)

-- two columns and two rows, 4 bits each
abbrev four : List ℕ
four = 128 ∷ 128 ∷ 4 ∷ 0x12 ∷ 0x34 ∷ []

-- ---- reading

pub record Row : Type 0 where
  pub place : ℕ
  pub bytes : List ℕ
  pub gives : Outcome ℕ

abbrev row : List ℕ → Outcome ℕ → Row
row bytes o = record { place = 0; bytes = bytes; gives = o }

abbrev wrong : List ℕ → Row
wrong payload = row (with 3 payload) (refused 24 0)

abbrev table : List Row
table =
    row (with 3 four) (given (128 ∷ 128 ∷ 4 ∷ 1 ∷ 2 ∷ 3 ∷ 4 ∷ []))
    -- columns and rows are rounded up: three by three, two by one; one cell that is larger than the view
    ∷ row (with 3 (100 ∷ 100 ∷ 1 ∷ 0xFF ∷ 0x00 ∷ [])) (given (100 ∷ 100 ∷ 1 ∷ 1 ∷ 1 ∷ 1 ∷ 1 ∷ 1 ∷ 1 ∷ 1 ∷ 1 ∷ 0 ∷ []))
    ∷ row (sized 256 255 (segment_of 3 (255 ∷ 255 ∷ 8 ∷ 0xFE ∷ 0x01 ∷ []))) (given (255 ∷ 255 ∷ 8 ∷ 254 ∷ 1 ∷ []))
    ∷ row (sized 1 1 (segment_of 3 (255 ∷ 255 ∷ 3 ∷ 0xA0 ∷ []))) (given (255 ∷ 255 ∷ 3 ∷ 5 ∷ []))
    -- width or height 0: exactly three bytes
    ∷ row (sized 0 256 (segment_of 3 (1 ∷ 1 ∷ 8 ∷ []))) (given (1 ∷ 1 ∷ 8 ∷ [])) ∷ row (sized 256 0 (segment_of 3 (1 ∷ 1 ∷ 8 ∷ []))) (given (1 ∷ 1 ∷ 8 ∷ []))
    ∷ row (sized 0 256 (segment_of 3 (1 ∷ 1 ∷ 8 ∷ 0 ∷ []))) (refused 24 0)
    -- each rule broken: the cell's width, its height, the bits, the length, the padding
    ∷ wrong (0 ∷ 128 ∷ 4 ∷ 0x12 ∷ 0x34 ∷ []) ∷ wrong (128 ∷ 0 ∷ 4 ∷ 0x12 ∷ 0x34 ∷ []) ∷ wrong (128 ∷ 128 ∷ 0 ∷ [])
    ∷ row (sized 1 1 (segment_of 3 (1 ∷ 1 ∷ 9 ∷ 0 ∷ 0 ∷ []))) (refused 24 0)
    ∷ wrong [] ∷ wrong (128 ∷ 128 ∷ []) ∷ wrong (128 ∷ 128 ∷ 4 ∷ 0x12 ∷ []) ∷ wrong (128 ∷ 128 ∷ 4 ∷ 0x12 ∷ 0x34 ∷ 0x00 ∷ [])
    ∷ wrong (100 ∷ 100 ∷ 1 ∷ 0xFF ∷ 0x01 ∷ []) ∷ wrong (100 ∷ 100 ∷ 1 ∷ 0xFF ∷ 0x40 ∷ [])
    -- more cells than any payload has
    ∷ row (sized 65535 65535 (segment_of 3 (1 ∷ 1 ∷ 8 ∷ 0 ∷ []))) (refused 24 0)
    -- another type; 23 before it, the segment behind it, 13 and the record's own refusals
    ∷ row (with 4 four) (refused 24 0) ∷ record { place = 1; bytes = with 4 four; gives = refused 23 0 }
    ∷ record { place = 1; bytes = sized 256 256 (segment_of 4 [] ++ segment_of 3 four); gives = given (128 ∷ 128 ∷ 4 ∷ 1 ∷ 2 ∷ 3 ∷ 4 ∷ []) }
    ∷ row (set (with 3 four) 17 3) (refused 5 136)
    ∷ []

abbrev computed : Row → Outcome ℕ
computed r = quality (named 2 0) r.place r.bytes

abbrev expected : Row → Outcome ℕ
expected r = r.gives

pub read_verdicts : map computed table ≡ map expected table
unfolding number_of_bits bits_of_number bits_of bytes_of then_dec via_dec only_dec judged_dec whole_dec room_dec ended_dec sized_dec most_lines least_bytes most_bytes end line skeleton index index_block segment segments view view_header header views record_of read size write on_record on_view on_segment cells values quality_block read_payload
read_verdicts = refl

-- ---- rewriting

pub record Rewriting : Type 0 where
  pub place : ℕ
  pub values : List ℕ
  pub old : List ℕ
  pub new : Outcome ℕ

abbrev of : List ℕ → List ℕ → Outcome ℕ → Rewriting
of vs old o = record { place = 0; values = vs; old = old; new = o }

-- refused, whatever is stored
abbrev not_right : List ℕ → Rewriting
not_right vs = of vs (with 3 four) (refused 24 0)

abbrev rewritings : List Rewriting
rewritings =
    -- the same values, one cell raised, more bits, fewer cells
    of (128 ∷ 128 ∷ 4 ∷ 1 ∷ 2 ∷ 3 ∷ 4 ∷ []) (with 3 four) (given (with 3 four))
    ∷ of (128 ∷ 128 ∷ 4 ∷ 1 ∷ 15 ∷ 3 ∷ 4 ∷ []) (with 3 four) (given (with 3 (128 ∷ 128 ∷ 4 ∷ 0x1F ∷ 0x34 ∷ [])))
    ∷ of (128 ∷ 128 ∷ 7 ∷ 1 ∷ 2 ∷ 3 ∷ 127 ∷ []) (with 3 four) (given (with 3 (128 ∷ 128 ∷ 7 ∷ 0x02 ∷ 0x08 ∷ 0x1F ∷ 0xF0 ∷ [])))
    ∷ of (255 ∷ 255 ∷ 1 ∷ 1 ∷ 0 ∷ 1 ∷ 1 ∷ []) (with 3 four) (given (with 3 (255 ∷ 255 ∷ 1 ∷ 0xB0 ∷ [])))
    -- a stored payload that breaks a rule is corrected; the segments around it stay
    ∷ of (128 ∷ 128 ∷ 4 ∷ 1 ∷ 2 ∷ 3 ∷ 4 ∷ []) (with 3 (0 ∷ [])) (given (with 3 four))
    ∷ record {
      place = 1;
      values = 128 ∷ 128 ∷ 4 ∷ 1 ∷ 2 ∷ 3 ∷ 4 ∷ [];
      old = sized 256 256 (segment_of 9 (7 ∷ []) ++ segment_of 3 [] ++ segment_of 3 (8 ∷ []));
      new = given (sized 256 256 (segment_of 9 (7 ∷ []) ++ segment_of 3 four ++ segment_of 3 (8 ∷ [])));
    }
    -- each rule broken: fewer than three bytes, the cell's width, its height, the bits, a value too few, one too many, one that does
    -- not fit
    ∷ not_right [] ∷ not_right (128 ∷ 128 ∷ []) ∷ not_right (0 ∷ 128 ∷ 4 ∷ 1 ∷ 2 ∷ 3 ∷ 4 ∷ []) ∷ not_right (128 ∷ 0 ∷ 4 ∷ 1 ∷ 2 ∷ 3 ∷ 4 ∷ [])
    ∷ not_right (128 ∷ 128 ∷ 0 ∷ 0 ∷ 0 ∷ 0 ∷ 0 ∷ []) ∷ not_right (128 ∷ 128 ∷ 9 ∷ 1 ∷ 2 ∷ 3 ∷ 4 ∷ []) ∷ not_right (128 ∷ 128 ∷ 4 ∷ 1 ∷ 2 ∷ 3 ∷ [])
    ∷ not_right (128 ∷ 128 ∷ 4 ∷ 1 ∷ 2 ∷ 3 ∷ 4 ∷ 5 ∷ []) ∷ not_right (128 ∷ 128 ∷ 4 ∷ 1 ∷ 2 ∷ 3 ∷ 16 ∷ [])
    -- another type; 23 before it
    ∷ of (128 ∷ 128 ∷ 4 ∷ 1 ∷ 2 ∷ 3 ∷ 4 ∷ []) (with 4 four) (refused 24 0)
    ∷ record { place = 1; values = []; old = with 4 four; new = refused 23 0 }
    ∷ []

abbrev rewrote : Rewriting → Outcome ℕ
rewrote r = set_quality (named 2 0) r.place r.values r.old

abbrev left : Rewriting → Outcome ℕ
left r = r.new

pub set_verdicts : map rewrote rewritings ≡ map left rewritings
unfolding number_of_bits bits_of_number bits_of bytes_of then_dec via_dec only_dec judged_dec whole_dec room_dec ended_dec sized_dec most_lines least_bytes most_bytes end line skeleton index index_block segment segments view view_header header views record_of read size write on_record on_view on_segment cells values quality_block rewritten rewriting set_payload
set_verdicts = refl
