-- The parts of a record by their places, from 0. A place behind the last has a part that no record holds; every definition that
-- asks for one tests the place first.
use Rattle.std.specs.Prelude.{ℕ, ◌+◌, List, [], length, take, get_or, set}
use Rattle.std.proofs.Math.Option.{none}
use Rattle.bits.specs.Lists.{total}
use Rattle.format.specs.Line.{Line, skeleton}
use Rattle.format.specs.Index.{index_block}
use Rattle.format.specs.Segments.{Segment, segment}
use Rattle.format.specs.View.{View, view}
use Rattle.format.specs.Record.{Record}
use Rattle.format.specs.declared.Widths.{Widths}
use Rattle.format.specs.declared.Image.{Image}

abbrev pub no_line : Line
no_line = record { start = record { kind = 0; direction = 0; x = 0; y = 0 }; codes = []; finish = record { kind = 0; direction = 0; x = 0; y = 0 } }

abbrev pub no_segment_there : Segment
no_segment_there = record { kind = 0; payload = [] }

abbrev pub no_view_there : View
no_view_there = record { head = record { number = 0; position = 0; impression = 0; quality = 0; width = 0; height = 0 }; lines = []; index = none; segments = [] }

abbrev pub view_at : Record → ℕ → View
view_at r i = get_or r.views i no_view_there

-- the record with another view at that place
abbrev pub with_view : Record → ℕ → View → Record
with_view r i v = record { head = r.head; views = set r.views i v }

-- the size of a view's image
abbrev pub image_of : View → Image
image_of v = record { width = v.head.width; height = v.head.height }

-- how many lines a view has
abbrev pub count : View → ℕ
count v = length v.lines

abbrev pub line_at : View → ℕ → Line
line_at v i = get_or v.lines i no_line

abbrev pub segment_at : View → ℕ → Segment
segment_at v i = get_or v.segments i no_segment_there

-- ---- bits before a view: the header's 24 bytes, and the views in front of it

abbrev pub bits_before : Record → ℕ → ℕ
bits_before r i = 192 + total (λ v. length ((view r.head.scale.widths []).enc v)) (take i r.views)

-- bits of a view before its segments: header, skeleton length, skeleton block, index length, index block, extended length
abbrev pub bits_ahead : Widths → View → ℕ
bits_ahead w v = 80 + length ((skeleton w).enc v.lines) + 16 + length ((index_block (length v.lines)).enc v.index) + 16

-- ---- bits of segments

abbrev pub segment_bits : List Segment → ℕ
segment_bits gs = total (λ g. length (segment.enc g)) gs

-- the first bit of a payload of view i, behind its type and its length
abbrev pub first_bit : (i place : ℕ) → Record → ℕ
first_bit i place r =
    bits_before r i + bits_ahead r.head.scale.widths (view_at r i) + segment_bits (take place (view_at r i).segments) + 32
