-- Each block is measured; the rest of the record is as long as it was.
use native.Mathlib.Omega.{arith}
use Rattle.bits.specs.Lists.{All}
use Rattle.bits.specs.Bytes.{Byte}
use Rattle.bits.proofs.Laws.Place.{all_bytes}
use Rattle.order_record.proofs.Laws.Index.{index_small_lem}
use Rattle.order_record.proofs.Laws.Site.{short, old_skeleton, old_index, old_extended}
use Rattle.order_record.proofs.Laws.Sizes.{skeleton_small, extended_small_lem, measured}
use Rattle.order_record.proofs.measure.measure.Goals as goal
use Rattle.order_record.proofs.measure.measure.Lts as lts
use Rattle.order_record.proofs.measure.measure.Reads as reads
use Rattle.order_record.proofs.measure.measure.Tie as tie

abbrev At-After-shared_slice_known-1 : Type 0
At-After-shared_slice_known-1 = lts.After-shared_slice_known tie.the-claims reads.Pre reads.Post

bytes : (c : At-After-shared_slice_known-1) → All Byte c.args.old.now
bytes c = all_bytes c.args.old.now (λ i. (c.shared_slice_known-1.given i).fits)

pub slice_bounds-skeleton_size-count : goal.slice_bounds-skeleton_size-count
slice_bounds-skeleton_size-count c =
    let b = c.requires.at.lines in omega (arith, b.from, b.within, short c.requires)

pub slice_bounds-skeleton_size-start : goal.slice_bounds-skeleton_size-start
slice_bounds-skeleton_size-start c =
    let b = c.requires.at.lines in omega (arith, b.from, b.within, short c.requires)

pub slice_bounds-skeleton_size-end : goal.slice_bounds-skeleton_size-end
slice_bounds-skeleton_size-end c =
    let b = c.requires.at.lines in omega (arith, b.from, b.within, short c.requires)

pub skeleton_size-skeleton-requires : goal.skeleton_size-skeleton-requires
skeleton_size-skeleton-requires c =
    old_skeleton c.requires (bytes c.before.before.before.before.before)

pub slice_bounds-lists_size-count : goal.slice_bounds-lists_size-count
slice_bounds-lists_size-count c =
    let b = c.requires.at.index in omega (arith, b.from, b.within, short c.requires)

pub slice_bounds-lists_size-start : goal.slice_bounds-lists_size-start
slice_bounds-lists_size-start c =
    let b = c.requires.at.index in omega (arith, b.from, b.within, short c.requires)

pub slice_bounds-lists_size-end : goal.slice_bounds-lists_size-end
slice_bounds-lists_size-end c =
    let b = c.requires.at.index in omega (arith, b.from, b.within, short c.requires)

pub lists_size-lists-requires : goal.lists_size-lists-requires
lists_size-lists-requires c =
    old_index c.requires

pub slice_bounds-segments_size-count : goal.slice_bounds-segments_size-count
slice_bounds-segments_size-count c =
    let b = c.requires.at.segments in omega (arith, b.from, b.within, short c.requires)

pub slice_bounds-segments_size-start : goal.slice_bounds-segments_size-start
slice_bounds-segments_size-start c =
    let b = c.requires.at.segments in omega (arith, b.from, b.within, short c.requires)

pub slice_bounds-segments_size-end : goal.slice_bounds-segments_size-end
slice_bounds-segments_size-end c =
    let b = c.requires.at.segments in omega (arith, b.from, b.within, short c.requires)

pub segments_size-extended-requires : goal.segments_size-extended-requires
segments_size-extended-requires c =
    old_extended c.requires (bytes c.before.before.before.before.before.before.before.before.before)

pub overflow_add-result : goal.overflow_add-result
overflow_add-result c =
    let t = c.requires in
    let a = t.at in
    let b = bytes c.before.before.before.before.before.before.before.before.before.before in
    let k = c.skeleton_size-skeleton.ensures in
    omega (arith, a.lines.from, a.next, a.index.from, a.last, a.segments.from, a.segments.within, short t, skeleton_small t b k, index_small_lem (old_index t) c.lists_size-lists.ensures, extended_small_lem t b k c.segments_size-extended.ensures)

pub overflow_add-result-2 : goal.overflow_add-result-2
overflow_add-result-2 c =
    let t = c.requires in
    let a = t.at in
    let b = bytes c.before.before.before.before.before.before.before.before.before.before in
    let k = c.skeleton_size-skeleton.ensures in
    omega (arith, a.lines.from, a.next, a.index.from, a.last, a.segments.from, a.segments.within, short t, skeleton_small t b k, index_small_lem (old_index t) c.lists_size-lists.ensures, extended_small_lem t b k c.segments_size-extended.ensures)

pub overflow_add-result-3 : goal.overflow_add-result-3
overflow_add-result-3 c =
    let t = c.requires in
    let a = t.at in
    let b = bytes c.before.before.before.before.before.before.before.before.before.before.before in
    let k = c.skeleton_size-skeleton.ensures in
    omega (arith, a.lines.from, a.next, a.index.from, a.last, a.segments.from, a.segments.within, short t, skeleton_small t b k, index_small_lem (old_index t) c.lists_size-lists.ensures, extended_small_lem t b k c.segments_size-extended.ensures)

pub overflow_add-result-4 : goal.overflow_add-result-4
overflow_add-result-4 c =
    let t = c.requires in
    let a = t.at in
    let b = bytes c.before.before.before.before.before.before.before.before.before.before.before in
    let k = c.skeleton_size-skeleton.ensures in
    omega (arith, a.lines.from, a.next, a.index.from, a.last, a.segments.from, a.segments.within, short t, skeleton_small t b k, index_small_lem (old_index t) c.lists_size-lists.ensures, extended_small_lem t b k c.segments_size-extended.ensures)

pub overflow_add-result-5 : goal.overflow_add-result-5
overflow_add-result-5 c =
    let t = c.requires in
    let a = t.at in
    let b = bytes c.before.before.before.before.before.before.before.before.before.before.before in
    let k = c.skeleton_size-skeleton.ensures in
    omega (arith, a.lines.from, a.next, a.index.from, a.last, a.segments.from, a.segments.within, short t, skeleton_small t b k, index_small_lem (old_index t) c.lists_size-lists.ensures, extended_small_lem t b k c.segments_size-extended.ensures)

pub overflow_add-result-6 : goal.overflow_add-result-6
overflow_add-result-6 c =
    let t = c.requires in
    let a = t.at in
    let b = bytes c.before.before.before.before.before.before.before.before.before.before.before in
    let k = c.skeleton_size-skeleton.ensures in
    omega (arith, a.lines.from, a.next, a.index.from, a.last, a.segments.from, a.segments.within, short t, skeleton_small t b k, index_small_lem (old_index t) c.lists_size-lists.ensures, extended_small_lem t b k c.segments_size-extended.ensures)

pub returns : goal.returns
returns c =
    measured c.requires (bytes c.before.before.before.before.before.before.before.before.before.before.before) c.skeleton_size-skeleton.ensures c.lists_size-lists.ensures c.segments_size-extended.ensures
