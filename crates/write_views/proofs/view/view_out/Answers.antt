-- The header's bytes, then the three blocks, one behind the other.
use native.Mathlib.Omega.{arith}
use mathlib.Core.List.{◌++◌}
use lib.ListN.{length-take, length-drop}
use Rattle.put_bytes.specs.HighFirst.{joined}
use Rattle.sheet_bytes.specs.Bytes.{index_bytes, segment_bytes}
use Rattle.find_parts.proofs.Laws.Written.{view_blocks}
use Rattle.write_views.proofs.Laws.View.{head_there, lines_at, segments_at, head_laid, lines_laid, lines_done, index_at, index_laid, index_done, segments_laid, view_laid}
use Rattle.write_views.proofs.view.view_out.Goals as goal

pub slice_bounds-copy-end : goal.slice_bounds-copy-end
slice_bounds-copy-end c =
    let pre = c.requires in omega (arith, head_there c.args.w c.args.sheet.now c.args.a pre.value pre.rest pre.is pre.next pre.right)

pub skeleton-lines-requires : goal.skeleton-lines-requires
skeleton-lines-requires c =
    let pre = c.requires in
    let H = head_laid c.args.w c.args.sheet.now c.args.a pre.value pre.rest pre.is pre.next pre.right c.copy-at.ensures in
    record {
      narrow = pre.narrow;
      value = pre.value.lines;
      rest = index_bytes pre.value.index ++ (joined segment_bytes pre.value.segments ++ pre.rest);
      at = lines_at c.args.w c.args.sheet.now c.args.a pre.value pre.rest pre.is pre.next pre.right;
      small = pre.right.lines_small;
      room = simp (length-take, length-drop) (omega (arith, H.count, view_blocks c.args.w pre.value, pre.room));
    }

pub overflow_add-at : goal.overflow_add-at
overflow_add-at c =
    let pre = c.requires in
    omega (arith, lines_done c.args.w c.args.sheet.now c.args.a pre.value pre.rest pre.is pre.next pre.right c.copy-at.ensures c.skeleton-lines.ensures, view_blocks c.args.w pre.value, pre.room)

pub slice_bounds-index-count : goal.slice_bounds-index-count
slice_bounds-index-count c =
    let pre = c.requires in
    omega (arith, lines_done c.args.w c.args.sheet.now c.args.a pre.value pre.rest pre.is pre.next pre.right c.copy-at.ensures c.skeleton-lines.ensures, view_blocks c.args.w pre.value, pre.room)

pub slice_bounds-index-start : goal.slice_bounds-index-start
slice_bounds-index-start c =
    let pre = c.requires in
    omega (arith, lines_done c.args.w c.args.sheet.now c.args.a pre.value pre.rest pre.is pre.next pre.right c.copy-at.ensures c.skeleton-lines.ensures, view_blocks c.args.w pre.value, pre.room)

pub index-lists-requires : goal.index-lists-requires
index-lists-requires c =
    let pre = c.requires in
    let D = lines_done c.args.w c.args.sheet.now c.args.a pre.value pre.rest pre.is pre.next pre.right c.copy-at.ensures c.skeleton-lines.ensures in
    let (L, n, d) = lines_laid c.args.w c.args.sheet.now c.args.a pre.value pre.rest pre.is pre.next pre.right c.copy-at.ensures c.skeleton-lines.ensures in
    record {
      few = rw n pre.right.few;
      value = pre.value.index;
      rest = joined segment_bytes pre.value.segments ++ pre.rest;
      at = index_at c.args.w c.args.sheet.now c.args.a pre.value pre.rest pre.is pre.next pre.right c.copy-at.ensures c.skeleton-lines.ensures;
      small = rw n pre.right.index_small;
      room = simp (length-take, length-drop) (rw n (omega (arith, D, view_blocks c.args.w pre.value, pre.room)));
    }

pub overflow_add-at-2 : goal.overflow_add-at-2
overflow_add-at-2 c =
    let pre = c.requires in
    omega (arith, index_done c.args.w c.args.sheet.now c.args.a pre.value pre.rest pre.is pre.next pre.right c.copy-at.ensures c.skeleton-lines.ensures c.index-lists.ensures, view_blocks c.args.w pre.value, pre.room)

pub slice_bounds-extended-count : goal.slice_bounds-extended-count
slice_bounds-extended-count c =
    let pre = c.requires in
    omega (arith, index_done c.args.w c.args.sheet.now c.args.a pre.value pre.rest pre.is pre.next pre.right c.copy-at.ensures c.skeleton-lines.ensures c.index-lists.ensures, view_blocks c.args.w pre.value, pre.room)

pub slice_bounds-extended-start : goal.slice_bounds-extended-start
slice_bounds-extended-start c =
    let pre = c.requires in
    omega (arith, index_done c.args.w c.args.sheet.now c.args.a pre.value pre.rest pre.is pre.next pre.right c.copy-at.ensures c.skeleton-lines.ensures c.index-lists.ensures, view_blocks c.args.w pre.value, pre.room)

pub extended-segments-requires : goal.extended-segments-requires
extended-segments-requires c =
    let pre = c.requires in
    let D = index_done c.args.w c.args.sheet.now c.args.a pre.value pre.rest pre.is pre.next pre.right c.copy-at.ensures c.skeleton-lines.ensures c.index-lists.ensures in
    let (L, d) = index_laid c.args.w c.args.sheet.now c.args.a pre.value pre.rest pre.is pre.next pre.right c.copy-at.ensures c.skeleton-lines.ensures c.index-lists.ensures in
    record {
      value = pre.value.segments;
      rest = pre.rest;
      at = segments_at c.args.w c.args.sheet.now c.args.a pre.value pre.rest pre.is pre.next pre.right d;
      small = pre.right.extended_small;
      room = simp (length-take, length-drop) (omega (arith, D, view_blocks c.args.w pre.value, pre.room));
    }

pub overflow_add-at-3 : goal.overflow_add-at-3
overflow_add-at-3 c =
    let pre = c.requires in
    let D = index_done c.args.w c.args.sheet.now c.args.a pre.value pre.rest pre.is pre.next pre.right c.copy-at.ensures c.skeleton-lines.ensures c.index-lists.ensures in
    let (G, e) = segments_laid c.args.w c.args.sheet.now c.args.a pre.value pre.rest pre.is pre.next pre.right c.copy-at.ensures c.skeleton-lines.ensures c.index-lists.ensures c.extended-segments.ensures in
    omega (arith, D, G.count, view_blocks c.args.w pre.value, pre.room)

pub returns : goal.returns
returns c =
    record {
      is = λ v rest e n r.
          view_laid c.args.w c.args.sheet.now c.args.a v rest e n r c.copy-at.ensures c.skeleton-lines.ensures c.index-lists.ensures c.extended-segments.ensures;
    }
