-- The view's blocks are there, and the code finds them. What their writers lay, one behind the other, is what is asked.
use native.Mathlib.Omega.{arith}
use mathlib.Core.List.{[]}
use lib.ListN.{length-take, length-drop}
use Rattle.find_parts.proofs.Laws.Blocks.{lines_here, index_here, segments_here}
use Rattle.read_views.proofs.Laws.Blocks.{lines_few, lines_wide, index_reads, index_wide, segments_wide, blocks_laid}
use Rattle.read_views.proofs.view.blocks_out.Goals as goal

pub of-skeleton-requires : goal.of-skeleton-requires
of-skeleton-requires c = let here = lines_here c.requires.blocks c.blocks_at-blocks.ensures in (here.from, here.within)

pub of-index-requires : goal.of-index-requires
of-index-requires c = let here = index_here c.requires.blocks c.blocks_at-blocks.ensures in (here.from, here.within)

pub of-extended-requires : goal.of-extended-requires
of-extended-requires c = let here = segments_here c.requires.blocks c.blocks_at-blocks.ensures in (here.from, here.within)

pub lines_out-lines-requires : goal.lines_out-lines-requires
lines_out-lines-requires c =
    let s = c.requires in
    rw c.of-skeleton.ensures (record {
      narrow = s.narrow;
      short = simp (length-take, length-drop) (omega (arith, s.short));
      value = s.value.lines;
      left = [];
      reads = (lines_here s.blocks c.blocks_at-blocks.ensures).value;
      room = omega (arith, s.room);
    })

pub slice_bounds-index_out-count : goal.slice_bounds-index_out-count
slice_bounds-index_out-count c =
    let lines = rw c.of-skeleton.ensures at c.lines_out-lines.ensures in
    omega (arith, c.requires.room, lines_wide c.requires.blocks c.blocks_at-blocks.ensures lines)

pub slice_bounds-index_out-start : goal.slice_bounds-index_out-start
slice_bounds-index_out-start c =
    let lines = rw c.of-skeleton.ensures at c.lines_out-lines.ensures in
    omega (arith, c.requires.room, lines_wide c.requires.blocks c.blocks_at-blocks.ensures lines)

pub index_out-at-requires : goal.index_out-at-requires
index_out-at-requires c =
    let s = c.requires in
    let found = c.blocks_at-blocks.ensures in
    let lines = rw c.of-skeleton.ensures at c.lines_out-lines.ensures in
    rw c.of-index.ensures (record {
      few = lines_few s.blocks found lines;
      short = simp (length-take, length-drop) (omega (arith, s.short));
      value = s.value.index;
      left = [];
      reads = index_reads s.blocks found lines;
      room = simp (length-take, length-drop) (omega (arith, s.room, lines_wide s.blocks found lines));
    })

pub overflow_add-at : goal.overflow_add-at
overflow_add-at c =
    let lines = rw c.of-skeleton.ensures at c.lines_out-lines.ensures in
    let index = rw c.of-index.ensures at c.index_out-at.ensures in
    let s = c.requires in
    let found = c.blocks_at-blocks.ensures in
    omega (arith, s.room, lines_wide s.blocks found lines, index_wide s.blocks found lines index)

pub slice_bounds-segments_out-count : goal.slice_bounds-segments_out-count
slice_bounds-segments_out-count c =
    let lines = rw c.of-skeleton.ensures at c.lines_out-lines.ensures in
    let index = rw c.of-index.ensures at c.index_out-at.ensures in
    let s = c.requires in
    let found = c.blocks_at-blocks.ensures in
    omega (arith, s.room, lines_wide s.blocks found lines, index_wide s.blocks found lines index)

pub slice_bounds-segments_out-start : goal.slice_bounds-segments_out-start
slice_bounds-segments_out-start c =
    let lines = rw c.of-skeleton.ensures at c.lines_out-lines.ensures in
    let index = rw c.of-index.ensures at c.index_out-at.ensures in
    let s = c.requires in
    let found = c.blocks_at-blocks.ensures in
    omega (arith, s.room, lines_wide s.blocks found lines, index_wide s.blocks found lines index)

pub segments_out-at-requires : goal.segments_out-at-requires
segments_out-at-requires c =
    let s = c.requires in
    let found = c.blocks_at-blocks.ensures in
    let lines = rw c.of-skeleton.ensures at c.lines_out-lines.ensures in
    let index = rw c.of-index.ensures at c.index_out-at.ensures in
    rw c.of-extended.ensures (record {
      short = simp (length-take, length-drop) (omega (arith, s.short));
      value = s.value.segments;
      left = [];
      reads = (segments_here s.blocks found).value;
      room = simp (length-take, length-drop) (omega (arith, s.room, lines_wide s.blocks found lines, index_wide s.blocks found lines index));
    })

pub overflow_add-at-2 : goal.overflow_add-at-2
overflow_add-at-2 c =
    let s = c.requires in
    let found = c.blocks_at-blocks.ensures in
    let lines = rw c.of-skeleton.ensures at c.lines_out-lines.ensures in
    let index = rw c.of-index.ensures at c.index_out-at.ensures in
    let segments = rw c.of-extended.ensures at c.segments_out-at.ensures in
    omega (arith, s.room, lines_wide s.blocks found lines, index_wide s.blocks found lines index, segments_wide s.blocks found lines index segments)

pub returns : goal.returns
returns c =
    let lines = rw c.of-skeleton.ensures at c.lines_out-lines.ensures in
    let index = rw c.of-index.ensures at c.index_out-at.ensures in
    let segments = rw c.of-extended.ensures at c.segments_out-at.ensures in
    record { is = blocks_laid c.blocks_at-blocks.ensures lines index segments }
