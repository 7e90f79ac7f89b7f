-- A segment that a removal leaves, and what the code that sizes and puts it asks and answers. s: the segment's bytes; removal: the list
-- of the removal, as bytes; lines: how many lines the view has before it.
use Rattle.std.specs.Prelude.{◌≡◌, ℕ, ◌≤◌, List, length, T}
use Rattle.put_bytes.specs.Laid.{Laid}
use Rattle.format.specs.Segments.{Segment, FitsSegment}
use Rattle.find_parts.specs.Finds.{segment_stored}
use Rattle.pores.specs.Keep.{keep_in, pores_right}
use Rattle.orders.specs.Survive.{survivors}
use Rattle.orders.specs.Listed.{removal_lines}
use Rattle.order_removal.specs.Rank.{Rising}

abbrev pub kept_segment : (lines : ℕ) → (removal : List ℕ) → Segment → Segment
kept_segment lines removal g = keep_in lines (survivors lines (removal_lines removal)) g

pub record SegmentToKeep (s : List ℕ) (lines : ℕ) (removal : List ℕ) : Type 0 where
  pub few : lines ≤ 1024
  pub rising : Rising removal
  pub value : Segment
  pub fits : FitsSegment value
  pub is : s ≡ segment_stored value
  pub right : T (pores_right lines value)

pub record SegmentSized (s : List ℕ) (lines : ℕ) (removal : List ℕ) (r : ℕ) : Type 0 where
  pub is : (g : Segment) → s ≡ segment_stored g → FitsSegment g → T (pores_right lines g) → r ≡ length (segment_stored (kept_segment lines removal g))

pub record SegmentPutThere (s : List ℕ) (lines : ℕ) (removal out : List ℕ) : Type 0 where
  pub there : SegmentToKeep s lines removal
  pub room : length (segment_stored (kept_segment lines removal there.value)) ≤ length out

pub record SegmentPut (s : List ℕ) (lines : ℕ) (removal before after : List ℕ) (r : ℕ) : Type 0 where
  pub is : (g : Segment) → s ≡ segment_stored g → FitsSegment g → T (pores_right lines g) → Laid (segment_stored (kept_segment lines removal g)) before after r
