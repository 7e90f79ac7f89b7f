-- Where a view of a record and its parts stand in the record's bytes. Each view stands behind the header's 24 bytes and the views
-- before it, "without gaps"; so view i ends where the next one starts, and "the last view ends where the record ends".
use Rattle.std.specs.Prelude.{ℕ, suc, ◌+◌, ◌-◌, ◌/◌, List, take}
use Rattle.std.proofs.Math.Seq.{slice}
use Rattle.format.specs.Record.{Record}
use Rattle.format.specs.Places.{view_at, bits_before, bits_ahead, segment_bits}

-- ---- view i of the record r, in the bytes of r; `slice from to` is what stands from one byte on and before the other

-- its first byte
abbrev pub view_start : Record → ℕ → ℕ
view_start r i = bits_before r i / 8

-- its extended length: two bytes, and then its segments
abbrev pub extended_start : Record → ℕ → ℕ
extended_start r i = (bits_before r i + bits_ahead r.head.scale.widths (view_at r i)) / 8 - 2

-- all of it
abbrev pub view_part : Record → ℕ → List ℕ → List ℕ
view_part r i bytes = slice (view_start r i) (view_start r (suc i)) bytes

-- "view header without skeleton length (8 bytes)"
abbrev pub view_header_part : Record → ℕ → List ℕ → List ℕ
view_header_part r i bytes = slice (view_start r i) (view_start r i + 8) bytes

-- the extended length and the segments, up to the view's end
abbrev pub extended_part : Record → ℕ → List ℕ → List ℕ
extended_part r i bytes = slice (extended_start r i) (view_start r (suc i)) bytes

-- ---- the segment at a place of view i

-- its first byte; behind the last segment, the view's end
abbrev pub segment_start : Record → (i place : ℕ) → ℕ
segment_start r i place = (bits_before r i + bits_ahead r.head.scale.widths (view_at r i) + segment_bits (take place (view_at r i).segments)) / 8

abbrev pub segment_part : Record → (i place : ℕ) → List ℕ → List ℕ
segment_part r i place bytes = slice (segment_start r i place) (segment_start r i (suc place)) bytes
