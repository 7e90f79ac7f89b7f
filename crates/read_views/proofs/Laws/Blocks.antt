-- What the writers of a view's blocks lay, one behind the other, is the blocks' part of the view's fields. The blocks are those that
-- code finds.
use mathlib.Core.Path.{◌≡◌, ◌∙◌}
use Prim.Native.Nat.{ℕ, ◌+◌, ◌≤◌}
use mathlib.Core.List.{List, [], ◌++◌, append_assoc}
use lib.ListN.{length}
use Rattle.bits.specs.Bytes.{bits_of}
use Rattle.bits.specs.Codec.{got}
use Rattle.bits.specs.Lists.{total}
use Rattle.put_bytes.specs.Laid.{Laid}
use Rattle.put_bytes.proofs.Laws.{laid_next, lent, back}
use Rattle.format.specs.Index.{index_block}
use Rattle.format.specs.View.{View}
use Rattle.format.specs.SheetSize.{line_size, index_size, segment_size}
use Rattle.format.specs.declared.Widths.{Widths}
use Rattle.put_bytes.specs.HighFirst.{joined}
use Rattle.sheet_bytes.specs.Bytes.{line_bytes, index_bytes, segment_bytes}
use Rattle.read_blocks.specs.LineOuts.{LinesOut}
use Rattle.read_blocks.specs.BlockOuts.{IndexOut, SegmentsOut}
use Rattle.find_parts.specs.Stands.{BlocksAt}
use Rattle.find_parts.specs.Finds.{BlocksFound}
use Rattle.find_parts.specs.declared.view.Blocks.{Blocks}
use Rattle.find_parts.proofs.Laws.Blocks.{cut, few_lines, lines_here, index_here, segments_here, behind_is}
use Rattle.read_blocks.specs.declared.line.Lines.{Lines}
use Rattle.sheet_bytes.proofs.Laws.Sizes.{joined_size, line_size_lem, index_size_lem, segment_size_lem}

-- ---- what the writers leave

module _ {w : Widths} {s : List ℕ} {b : ℕ} {v : View} {d : ℕ} (B : BlocksAt w s b v d) {x : Blocks} (F : BlocksFound s b x)
    {o o1 : List ℕ} {r : Lines} (L : LinesOut w (cut s x.skeleton.from x.skeleton.to) o o1 r) where
  lines_are : (r.count ≡ length v.lines) × Laid (joined (line_bytes w.k) v.lines) o o1 r.written
  lines_are = L.is v.lines [] (lines_here B F).value

  pub lines_few : r.count ≤ 1024
  lines_few = rw lines_are.0 (few_lines w (lines_here B F))

  pub lines_wide : r.written ≡ total line_size v.lines
  lines_wide = lines_are.1.count ∙ joined_size (line_bytes w.k) line_size (line_size_lem w.k) v.lines

  pub index_reads : (index_block r.count).dec (bits_of (cut s x.index.from x.index.to)) ≡ got v.index []
  index_reads = rw lines_are.0 (index_here B F).value

  module _ {p p1 : List ℕ} {n : ℕ} (I : IndexOut r.count (cut s x.index.from x.index.to) p p1 n) where
    index_is : Laid (index_bytes v.index) p p1 n
    index_is = I.is v.index [] index_reads

    pub index_wide : n ≡ index_size v.index
    index_wide = index_is.count ∙ index_size_lem v.index

    module _ {q q1 : List ℕ} {g : ℕ} (G : SegmentsOut (cut s x.extended.from x.extended.to) q q1 g) where
      segments_are : Laid (joined segment_bytes v.segments) q q1 g
      segments_are = G.is v.segments [] (segments_here B F).value

      pub segments_wide : g ≡ total segment_size v.segments
      segments_wide = segments_are.count ∙ joined_size segment_bytes segment_size segment_size_lem v.segments

module _ {w : Widths} {s : List ℕ} {b : ℕ} {x : Blocks} (F : BlocksFound s b x)
    {o o1 o2 o3 : List ℕ} {r : Lines} {n g : ℕ} (L : LinesOut w (cut s x.skeleton.from x.skeleton.to) o o1 r)
    (I : IndexOut r.count (cut s x.index.from x.index.to) (lent o1 r.written) o2 n)
    (G : SegmentsOut (cut s x.extended.from x.extended.to) (lent (back o1 r.written o2) (r.written + n)) o3 g) where
  pub blocks_laid : (v : View) (d : ℕ) → BlocksAt w s b v d
      → (x.extended.to ≡ d) × Laid (joined (line_bytes w.k) v.lines ++ (index_bytes v.index ++ joined segment_bytes v.segments)) o
      (back (back o1 r.written o2) (r.written + n) o3) (r.written + n + g)
  blocks_laid v d B = (
    behind_is B F,
    rw (append_assoc (joined (line_bytes w.k) v.lines) (index_bytes v.index) (joined segment_bytes v.segments))
        at (laid_next (laid_next (lines_are B F L).1 (index_is B F L I)) (segments_are B F L I G)),
  )
