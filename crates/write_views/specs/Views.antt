-- What the writers of a view ask and leave: each block behind its length, and the view.
use Rattle.std.specs.Prelude.{◌≡◌, ℕ, ◌+◌, ◌≤◌, ◌<◌, List, [], ◌∷◌, ◌++◌, length, drop}
use Rattle.std.proofs.Math.Option.{Option}
use Rattle.bits.specs.Lists.{All}
use Rattle.bits.specs.Bytes.{in_bytes}
use Rattle.put_bytes.specs.Laid.{Laid}
use Rattle.format.specs.Line.{Line, FitsLine, skeleton}
use Rattle.format.specs.Index.{Index, index_block}
use Rattle.format.specs.Segments.{Segment, FitsSegment, segments}
use Rattle.format.specs.View.{View}
use Rattle.format.specs.declared.Widths.{Widths}
use Rattle.format.specs.Record.{Narrow}
use Rattle.sheet_bytes.specs.Bytes.{view_bytes}
use Rattle.find_parts.specs.Stored.{sized_out, view_out}
use Rattle.write_blocks.specs.Puts.{LineFieldsAt}
use Rattle.write_blocks.specs.Lists.{IndexAt}
use Rattle.write_blocks.specs.Outs.{SegmentsAt}
use Rattle.write_blocks.specs.declared.Done.{Done}
use Rattle.write_blocks.specs.declared.line.Lines.{Lines}

-- ---- the skeleton block: fields 03 from byte a of the sheet s on

pub record SkeletonThere (w : Widths) (s : List ℕ) (a : ℕ) (out : List ℕ) : Type 0 where
  pub narrow : Narrow w
  pub value : List Line
  pub rest : List ℕ
  pub at : LineFieldsAt w s a value rest
  pub small : length (in_bytes ((skeleton w).enc value)) < 65536
  pub room : 2 + length (in_bytes ((skeleton w).enc value)) ≤ length out

pub record SkeletonOut (w : Widths) (s : List ℕ) (a : ℕ) (before after : List ℕ) (r : Lines) : Type 0 where
  pub is : (ls : List Line) (rest : List ℕ) → LineFieldsAt w s a ls rest
      → Laid (sized_out (skeleton w) ls) before after r.bytes × (r.count ≡ length ls) × (drop r.next s ≡ rest)

-- ---- the index block: nothing, or fields 04 and 05

pub record IndexSizedThere (lines : ℕ) (s : List ℕ) (a : ℕ) (out : List ℕ) : Type 0 where
  pub few : lines ≤ 1024
  pub value : Option Index
  pub rest : List ℕ
  pub at : IndexAt lines s a value rest
  pub small : length (in_bytes ((index_block lines).enc value)) < 65536
  pub room : 2 + length (in_bytes ((index_block lines).enc value)) ≤ length out

pub record IndexBehindLength (lines : ℕ) (s : List ℕ) (a : ℕ) (before after : List ℕ) (r : Done) : Type 0 where
  pub is : (o : Option Index) (rest : List ℕ) → IndexAt lines s a o rest
      → Laid (sized_out (index_block lines) o) before after r.bytes × (drop r.next s ≡ rest)

-- ---- the extended block: fields 06

pub record SegmentsSizedThere (s : List ℕ) (a : ℕ) (out : List ℕ) : Type 0 where
  pub value : List Segment
  pub rest : List ℕ
  pub at : SegmentsAt s a value rest
  pub small : length (in_bytes (segments.enc value)) < 65536
  pub room : 2 + length (in_bytes (segments.enc value)) ≤ length out

pub record SegmentsSized (s : List ℕ) (a : ℕ) (before after : List ℕ) (r : Done) : Type 0 where
  pub is : (gs : List Segment) (rest : List ℕ) → SegmentsAt s a gs rest
      → Laid (sized_out segments gs) before after r.bytes × (drop r.next s ≡ rest)

-- ---- the view whose field 02 is at byte a of the sheet s; behind it is another view, or nothing

abbrev pub NextView : List ℕ → Type 0
NextView [] = Unit {0}
NextView (b ∷ bs) = b ≡ 2

-- its values are right, and its blocks are not too long for their lengths
pub record RightView (w : Widths) (v : View) : Type 0 where
  pub few : length v.lines ≤ 1024
  pub lines : All (FitsLine w) v.lines
  pub index : (index_block (length v.lines)).Fits v.index
  pub extended : All FitsSegment v.segments
  pub lines_small : length (in_bytes ((skeleton w).enc v.lines)) < 65536
  pub index_small : length (in_bytes ((index_block (length v.lines)).enc v.index)) < 65536
  pub extended_small : length (in_bytes (segments.enc v.segments)) < 65536

pub record ViewToWrite (w : Widths) (s : List ℕ) (a : ℕ) (out : List ℕ) : Type 0 where
  pub narrow : Narrow w
  pub value : View
  pub rest : List ℕ
  pub is : drop a s ≡ view_bytes w.k value ++ rest
  pub next : NextView rest
  pub right : RightView w value
  pub room : length (view_out w value) ≤ length out

pub record ViewPut (w : Widths) (s : List ℕ) (a : ℕ) (before after : List ℕ) (r : Done) : Type 0 where
  pub is : (v : View) (rest : List ℕ) → drop a s ≡ view_bytes w.k v ++ rest → NextView rest → RightView w v
      → Laid (view_out w v) before after r.bytes × (drop r.next s ≡ rest)
