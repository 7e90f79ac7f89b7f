-- The outcomes of the calls on a card's object, computed: a row on each side of a limit of the shape, one for each refusal with its place, and
-- Annex B.4 of document 000 as it stands and mended. 9 and 19 need large objects; they are laws of the blocks and of the record.
use mathlib.Core.Path.{◌≡◌, refl}
use Prim.Native.Nat.{ℕ, ◌+◌}
use mathlib.Core.List.{List, [], ◌∷◌, ◌++◌, map}
use lib.ListN.{length, set, take}
use Rattle.bits.specs.Bits.{number_of_bits, bits_of_number}
use Rattle.bits.specs.Bytes.{bits_of, bytes_of}
use Rattle.bits.specs.Codec.{then_dec, via_dec, only_dec, judged_dec, whole_dec, room_dec}
use Rattle.bits.specs.Block.{ended_dec, sized_dec, ahead_dec, recast_dec, exact_dec, sifted_dec}
use Rattle.outcome.specs.Outcome.{Outcome, number_of, place_of, length_of}
use Rattle.format.specs.Limits.{most_lines, least_bytes, most_bytes}
use Rattle.format.specs.Line.{end, line, skeleton}
use Rattle.format.specs.Index.{index, index_block}
use Rattle.format.specs.Segments.{segment, segments}
use Rattle.format.specs.View.{view, view_header}
use Rattle.format.specs.Record.{header, views, record_of, read, size, write}
use Rattle.format.specs.Named.{named}
use Rattle.format.specs.Call.{on_record, on_view}
use Rattle.format.specs.Sample.{sample_a}
use Rattle.card.specs.Length.{object_length}
use Rattle.card.specs.Object.{other}
use Rattle.card.specs.Card.{shape, content, card, record_of_card, card_read, object_of, card_write}

-- number, place and length
abbrev Row : Type 0
Row = Outcome ℕ × (ℕ × (ℕ × ℕ))

abbrev verdict : Row → ℕ × (ℕ × ℕ)
verdict row = (number_of row.0, (place_of row.0, length_of row.0))

abbrev expected : Row → ℕ × (ℕ × ℕ)
expected row = row.1

abbrev wrong : ℕ × (ℕ × ℕ)
wrong = (27, (0, 0))

-- object 90 with this value in its template, and what follows 90 there; all lengths below 128
abbrev object : List ℕ → List ℕ → List ℕ
object value behind = 0x7F ∷ 0x2E ∷ (2 + length value + length behind) ∷ 0x90 ∷ length value ∷ (value ++ behind)

-- a value of 20 by 35 points, with these blocks
abbrev value : List ℕ → List ℕ → List ℕ
value lines index = 0x00 ∷ 0x14 ∷ 0x00 ∷ 0x23 ∷ 0x00 ∷ length lines ∷ (lines ++ (0x00 ∷ length index ∷ index))

-- no lines; a line without codes at the compact widths, seven bytes, and at the normal ones, nine
abbrev none : List ℕ
none = object (value [] []) []

abbrev short : List ℕ
short = 0x29 ∷ 0x04 ∷ 0x01 ∷ 0x00 ∷ 0x00 ∷ 0x00 ∷ 0x00 ∷ []

abbrev long : List ℕ
long = short ++ (0x00 ∷ 0x00 ∷ [])

-- Annex B.4
abbrev annex_b4 : List ℕ
annex_b4 =
    0x5F ∷ 0x2E ∷ 0x81 ∷ 0x39 ∷ 0x00 ∷ 0x14 ∷ 0x00 ∷ 0x23 ∷ 0x00 ∷ 0x29 ∷ 0x29 ∷ 0x04 ∷ 0x01 ∷ 0x01 ∷ 0x01 ∷ 0x27 ∷ 0x0A ∷ 0x03 ∷ 0x04 ∷ 0x33 ∷ 0x72 ∷ 0x10 ∷ 0x8F ∷ 0x06
    ∷ 0x18 ∷ 0x02 ∷ 0xDE ∷ 0x10 ∷ 0x6A ∷ 0x02 ∷ 0x08 ∷ 0x01 ∷ 0x00 ∷ 0x6A ∷ 0x08 ∷ 0x0B ∷ 0x03 ∷ 0x37 ∷ 0x21 ∷ 0x6A ∷ 0x08 ∷ 0x0B ∷ 0x03 ∷ 0x37 ∷ 0x21 ∷ 0x32 ∷ 0x13 ∷ 0x0D
    ∷ 0x03 ∷ 0x07 ∷ 0x21 ∷ 0x00 ∷ 0x08 ∷ 0x04 ∷ 0x01 ∷ 0x11 ∷ 0x22 ∷ 0x21 ∷ 0x21 ∷ 0x21 ∷ 0x10 ∷ []

abbrev mended : List ℕ
mended =
    0x7F ∷ 0x2E ∷ 0x4C ∷ 0x90 ∷ 0x4A ∷ 0x00 ∷ 0x14 ∷ 0x00 ∷ 0x23 ∷ 0x00 ∷ 0x3A ∷ 0x29 ∷ 0x04 ∷ 0x01 ∷ 0x01 ∷ 0x00 ∷ 0x00 ∷ 0x00 ∷ 0x02 ∷ 0x70 ∷ 0xA0 ∷ 0x30 ∷ 0x43 ∷ 0x37
    ∷ 0x20 ∷ 0x00 ∷ 0x00 ∷ 0x08 ∷ 0xF0 ∷ 0x61 ∷ 0x80 ∷ 0x2D ∷ 0xE0 ∷ 0x00 ∷ 0x00 ∷ 0x06 ∷ 0xA0 ∷ 0x20 ∷ 0x80 ∷ 0x10 ∷ 0x00 ∷ 0x00 ∷ 0x00 ∷ 0x6A ∷ 0x08 ∷ 0x0B ∷ 0x03 ∷ 0x37
    ∷ 0x20 ∷ 0x00 ∷ 0x00 ∷ 0x06 ∷ 0xA0 ∷ 0x80 ∷ 0xB0 ∷ 0x33 ∷ 0x72 ∷ 0x00 ∷ 0x00 ∷ 0x00 ∷ 0x32 ∷ 0x13 ∷ 0x0D ∷ 0x03 ∷ 0x07 ∷ 0x20 ∷ 0x00 ∷ 0x00 ∷ 0x00 ∷ 0x00 ∷ 0x08 ∷ 0x04
    ∷ 0x01 ∷ 0x11 ∷ 0x22 ∷ 0x21 ∷ 0x21 ∷ 0x21 ∷ 0x10 ∷ []

-- the record that a size makes of an object without lines, with byte p set to x
abbrev bare : ℕ → ℕ → List ℕ
bare p x =
    set (0x46 ∷ 0x53 ∷ 0x4B ∷ 0x00 ∷ 0x30 ∷ 0x31 ∷ 0x30 ∷ 0x00 ∷ 0x00 ∷ 0x00 ∷ 0x00 ∷ 0x26 ∷ 0x00 ∷ 0x00 ∷ 0x01 ∷ 0x64 ∷ 0x08 ∷ 0x06 ∷ 0x04 ∷ 0x10 ∷ 0x3C ∷ 0x20 ∷ 0x00 ∷ 0x00
    ∷ 0x00 ∷ 0x00 ∷ 0x00 ∷ 0x00 ∷ 0x00 ∷ 0x14 ∷ 0x00 ∷ 0x23 ∷ 0x00 ∷ 0x00 ∷ 0x00 ∷ 0x00 ∷ 0x00 ∷ 0x00 ∷ []) p x

abbrev table : List Row
table =
    -- the sizes
    (card_read 0 none, (0, (0, 38))) ∷ (card_read 1 none, (0, (0, 38))) ∷ (card_read 2 none, wrong)
    ∷ (card_read 0 (object (value long []) []), (0, (0, 47))) ∷ (card_read 1 (object (value short []) []), (0, (0, 45))) ∷ (card_read 0 (object (value short []) []), (8, (88, 0)))
    -- the shape: cut, other tags, lengths, bytes left and bytes after
    ∷ (card_read 1 [], wrong) ∷ (card_read 1 (take 12 none), wrong) ∷ (card_read 1 (set none 0 0x5F), wrong) ∷ (card_read 1 (set none 3 0x91), wrong)
    ∷ (card_read 1 (none ++ (0x00 ∷ [])), wrong) ∷ (card_read 1 (set none 2 0x0B), wrong) ∷ (card_read 1 (set none 4 0x09), wrong)
    ∷ (card_read 1 (object (value [] [] ++ (0x00 ∷ [])) []), wrong) ∷ (card_read 1 (set none 10 0x01), wrong) ∷ (card_read 1 (set none 12 0x01), wrong)
    ∷ (card_read 1 (0x7F ∷ 0x2E ∷ 0x81 ∷ 0x0A ∷ 0x90 ∷ 0x08 ∷ value [] []), wrong) ∷ (card_read 1 (0x7F ∷ 0x2E ∷ 0x0B ∷ 0x90 ∷ 0x81 ∷ 0x08 ∷ value [] []), wrong)
    ∷ (card_read 1 (0x7F ∷ 0x2E ∷ 0x80 ∷ 0x90 ∷ 0x08 ∷ value [] []), wrong)
    -- what follows 90
    ∷ (card_read 1 (object (value [] []) (0x91 ∷ 0x00 ∷ 0x7F ∷ 0x01 ∷ 0xFF ∷ [])), (0, (0, 38))) ∷ (card_read 1 (object (value [] []) (0x91 ∷ 0x01 ∷ [])), wrong)
    ∷ (card_read 1 (object (value [] []) (0x91 ∷ [])), wrong) ∷ (card_read 1 (object (value [] []) (0x91 ∷ 0x81 ∷ 0x01 ∷ 0x00 ∷ [])), wrong)
    -- the blocks, with places in the object
    ∷ (card_read 1 (object (value (0x00 ∷ []) []) []), (8, (88, 0))) ∷ (card_read 1 (object (value long []) []), (8, (144, 0)))
    ∷ (card_read 1 (object (value [] (0x11 ∷ [])) []), (10, (104, 0))) ∷ (card_read 1 (object (value [] (0x01 ∷ [])) []), (0, (0, 39))) ∷ (card_read 1 (object (value short (0x01 ∷ 0x01 ∷ [])) []), (10, (175, 0)))
    -- 27 before 8, and 8 before 10
    ∷ (card_read 1 (object (value (0x00 ∷ []) []) (0x91 ∷ [])), wrong) ∷ (card_read 1 (object (value (0x00 ∷ []) (0x11 ∷ [])) []), (8, (88, 0)))
    -- Annex B.4
    ∷ (card_read 0 annex_b4, wrong) ∷ (card_read 1 annex_b4, wrong) ∷ (card_read 1 mended, (0, (0, 104)))
    -- writing
    ∷ (card_write 1 (named 0 0) (bare 0 0x46), (0, (0, 13))) ∷ (card_write 0 (named 0 0) (bare 0 0x46), (28, (0, 0))) ∷ (card_write 2 (named 0 0) (bare 0 0x46), wrong)
    ∷ (card_write 2 (named 0 0) [], wrong) ∷ (card_write 1 (named 0 0) [], (1, (0, 0))) ∷ (card_write 1 (named 0 0) (bare 0 0x47), (2, (0, 0))) ∷ (card_write 1 (named 2 0) (bare 0 0x46), (13, (0, 0)))
    ∷ (card_write 1 (named 0 0) (bare 15 0x65), (28, (0, 0))) ∷ (card_write 1 (named 0 0) (bare 16 0x09), (28, (0, 0))) ∷ (card_write 1 (named 0 0) (bare 17 0x07), (28, (0, 0)))
    ∷ (card_write 1 (named 0 0) (bare 18 0x05), (28, (0, 0))) ∷ (card_write 1 (named 0 0) (bare 19 0x11), (28, (0, 0))) ∷ (card_write 1 (named 0 0) (bare 20 0x3D), (28, (0, 0)))
    ∷ (card_write 1 (named 0 0) (bare 21 0x21), (28, (0, 0))) ∷ (card_write 1 (named 2 0) sample_a, (28, (0, 0))) ∷ (card_write 1 (named 2 1) sample_a, (13, (0, 0)))
    ∷ []

pub verdicts : map verdict table ≡ map expected table
unfolding card_read card_write card shape content other object_length record_of_card object_of on_record on_view record_of read write size header views view view_header skeleton line end index index_block segment segments most_lines least_bytes most_bytes bits_of bytes_of number_of_bits bits_of_number then_dec via_dec only_dec judged_dec whole_dec room_dec ended_dec sized_dec ahead_dec recast_dec exact_dec sifted_dec
verdicts = refl
