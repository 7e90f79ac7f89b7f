-- Its parts, one behind the other: the first bytes, the three blocks, and the rest.
use native.Mathlib.Omega.{arith}
use lib.ListN.{length-take, length-drop}
use Rattle.bits.specs.Lists.{All}
use Rattle.bits.specs.Bytes.{Byte}
use Rattle.bits.proofs.Laws.Place.{all_bytes}
use Rattle.order_record.proofs.Laws.Put.{in_all, front, places, head_end, skeleton_room, skeleton_end, index_room, index_end, extended_room, extended_end, third_room, rest_fits, whole, rebuilt}
use Rattle.order_record.proofs.put.put.Goals as goal
use Rattle.order_record.proofs.put.put.Lts as lts
use Rattle.order_record.proofs.put.put.Reads as reads
use Rattle.order_record.proofs.put.put.Tie as tie

abbrev At-After-shared_slice_known-1 : Type 0
At-After-shared_slice_known-1 = lts.After-shared_slice_known tie.the-claims reads.Pre reads.Post

bytes : (c : At-After-shared_slice_known-1) → All Byte c.args.old.now
bytes c = all_bytes c.args.old.now (λ i. (c.shared_slice_known-1.given i).fits)

pub overflow_sub-from : goal.overflow_sub-from
overflow_sub-from c =
    omega (arith, front c.requires (bytes c.before.before.before.before))

pub head_put-at-requires : goal.head_put-at-requires
head_put-at-requires c =
    let t = c.requires in
    let b = bytes c.before.before.before.before in
    record { from = omega (arith, front t b); within = omega (arith, places t b); small = omega (arith, t.small); room = omega (arith, t.room, in_all t b) }

pub slice_bounds-skeleton_put-count : goal.slice_bounds-skeleton_put-count
slice_bounds-skeleton_put-count c =
    let t = c.requires in
    let b = bytes c.before.before.before.before.before.before.before in
    omega (arith, t.room, in_all t b, places t b, head_end t b c.head_put-at.ensures)

pub slice_bounds-skeleton_put-start : goal.slice_bounds-skeleton_put-start
slice_bounds-skeleton_put-start c =
    let t = c.requires in
    let b = bytes c.before.before.before.before.before.before.before in
    omega (arith, t.room, in_all t b, places t b, head_end t b c.head_put-at.ensures)

pub slice_bounds-skeleton_put-end : goal.slice_bounds-skeleton_put-end
slice_bounds-skeleton_put-end c =
    let t = c.requires in
    let b = bytes c.before.before.before.before.before.before.before in
    omega (arith, t.room, in_all t b, places t b, head_end t b c.head_put-at.ensures)

pub slice_bounds-skeleton_put-count-2 : goal.slice_bounds-skeleton_put-count-2
slice_bounds-skeleton_put-count-2 c =
    let t = c.requires in
    let b = bytes c.before.before.before.before.before.before.before.before in
    omega (arith, t.room, in_all t b, places t b, head_end t b c.head_put-at.ensures)

pub slice_bounds-skeleton_put-start-2 : goal.slice_bounds-skeleton_put-start-2
slice_bounds-skeleton_put-start-2 c =
    let t = c.requires in
    let b = bytes c.before.before.before.before.before.before.before.before in
    omega (arith, t.room, in_all t b, places t b, head_end t b c.head_put-at.ensures)

pub slice_bounds-skeleton_put-end-2 : goal.slice_bounds-skeleton_put-end-2
slice_bounds-skeleton_put-end-2 c =
    let t = c.requires in
    let b = bytes c.before.before.before.before.before.before.before.before in
    omega (arith, t.room, in_all t b, places t b, head_end t b c.head_put-at.ensures)

pub skeleton_put-at-requires : goal.skeleton_put-at-requires
skeleton_put-at-requires c =
    let t = c.requires in
    let b = bytes c.before.before.before.before.before.before.before.before.before.before in
    skeleton_room t b (simp (length-take, length-drop) (omega (arith, t.room, in_all t b, head_end t b c.head_put-at.ensures)))

pub overflow_add-at : goal.overflow_add-at
overflow_add-at c =
    let t = c.requires in
    let b = bytes c.before.before.before.before.before.before.before.before.before.before.before.before.before in
    omega (arith, t.small, t.room, in_all t b, places t b, head_end t b c.head_put-at.ensures, skeleton_end t b c.skeleton_put-at.ensures)

pub slice_bounds-lists_put-count : goal.slice_bounds-lists_put-count
slice_bounds-lists_put-count c =
    let t = c.requires in
    let b = bytes c.before.before.before.before.before.before.before.before.before.before.before.before.before in
    omega (arith, t.small, t.room, in_all t b, places t b, head_end t b c.head_put-at.ensures, skeleton_end t b c.skeleton_put-at.ensures)

pub slice_bounds-lists_put-start : goal.slice_bounds-lists_put-start
slice_bounds-lists_put-start c =
    let t = c.requires in
    let b = bytes c.before.before.before.before.before.before.before.before.before.before.before.before.before in
    omega (arith, t.small, t.room, in_all t b, places t b, head_end t b c.head_put-at.ensures, skeleton_end t b c.skeleton_put-at.ensures)

pub slice_bounds-lists_put-end : goal.slice_bounds-lists_put-end
slice_bounds-lists_put-end c =
    let t = c.requires in
    let b = bytes c.before.before.before.before.before.before.before.before.before.before.before.before.before in
    omega (arith, t.small, t.room, in_all t b, places t b, head_end t b c.head_put-at.ensures, skeleton_end t b c.skeleton_put-at.ensures)

pub slice_bounds-lists_put-count-2 : goal.slice_bounds-lists_put-count-2
slice_bounds-lists_put-count-2 c =
    let t = c.requires in
    let b = bytes c.before.before.before.before.before.before.before.before.before.before.before.before.before.before in
    omega (arith, t.small, t.room, in_all t b, places t b, head_end t b c.head_put-at.ensures, skeleton_end t b c.skeleton_put-at.ensures)

pub slice_bounds-lists_put-start-2 : goal.slice_bounds-lists_put-start-2
slice_bounds-lists_put-start-2 c =
    let t = c.requires in
    let b = bytes c.before.before.before.before.before.before.before.before.before.before.before.before.before.before in
    omega (arith, t.small, t.room, in_all t b, places t b, head_end t b c.head_put-at.ensures, skeleton_end t b c.skeleton_put-at.ensures)

pub slice_bounds-lists_put-end-2 : goal.slice_bounds-lists_put-end-2
slice_bounds-lists_put-end-2 c =
    let t = c.requires in
    let b = bytes c.before.before.before.before.before.before.before.before.before.before.before.before.before.before in
    omega (arith, t.small, t.room, in_all t b, places t b, head_end t b c.head_put-at.ensures, skeleton_end t b c.skeleton_put-at.ensures)

pub lists_put-at-requires : goal.lists_put-at-requires
lists_put-at-requires c =
    let t = c.requires in
    let b = bytes c.before.before.before.before.before.before.before.before.before.before.before.before.before.before.before in
    index_room t b (simp (length-take, length-drop) (omega (arith, t.room, in_all t b, head_end t b c.head_put-at.ensures, skeleton_end t b c.skeleton_put-at.ensures)))

pub overflow_add-at-2 : goal.overflow_add-at-2
overflow_add-at-2 c =
    let t = c.requires in
    let b = bytes c.before.before.before.before.before.before.before.before.before.before.before.before.before.before.before.before.before.before in
    omega (arith, t.small, t.room, in_all t b, places t b, head_end t b c.head_put-at.ensures, skeleton_end t b c.skeleton_put-at.ensures, index_end t b c.lists_put-at.ensures)

pub slice_bounds-segments_put-count : goal.slice_bounds-segments_put-count
slice_bounds-segments_put-count c =
    let t = c.requires in
    let b = bytes c.before.before.before.before.before.before.before.before.before.before.before.before.before.before.before.before.before.before in
    omega (arith, t.small, t.room, in_all t b, places t b, head_end t b c.head_put-at.ensures, skeleton_end t b c.skeleton_put-at.ensures, index_end t b c.lists_put-at.ensures)

pub slice_bounds-segments_put-start : goal.slice_bounds-segments_put-start
slice_bounds-segments_put-start c =
    let t = c.requires in
    let b = bytes c.before.before.before.before.before.before.before.before.before.before.before.before.before.before.before.before.before.before in
    omega (arith, t.small, t.room, in_all t b, places t b, head_end t b c.head_put-at.ensures, skeleton_end t b c.skeleton_put-at.ensures, index_end t b c.lists_put-at.ensures)

pub slice_bounds-segments_put-end : goal.slice_bounds-segments_put-end
slice_bounds-segments_put-end c =
    let t = c.requires in
    let b = bytes c.before.before.before.before.before.before.before.before.before.before.before.before.before.before.before.before.before.before in
    omega (arith, t.small, t.room, in_all t b, places t b, head_end t b c.head_put-at.ensures, skeleton_end t b c.skeleton_put-at.ensures, index_end t b c.lists_put-at.ensures)

pub slice_bounds-segments_put-count-2 : goal.slice_bounds-segments_put-count-2
slice_bounds-segments_put-count-2 c =
    let t = c.requires in
    let b = bytes c.before.before.before.before.before.before.before.before.before.before.before.before.before.before.before.before.before.before.before in
    omega (arith, t.small, t.room, in_all t b, places t b, head_end t b c.head_put-at.ensures, skeleton_end t b c.skeleton_put-at.ensures, index_end t b c.lists_put-at.ensures)

pub slice_bounds-segments_put-start-2 : goal.slice_bounds-segments_put-start-2
slice_bounds-segments_put-start-2 c =
    let t = c.requires in
    let b = bytes c.before.before.before.before.before.before.before.before.before.before.before.before.before.before.before.before.before.before.before in
    omega (arith, t.small, t.room, in_all t b, places t b, head_end t b c.head_put-at.ensures, skeleton_end t b c.skeleton_put-at.ensures, index_end t b c.lists_put-at.ensures)

pub slice_bounds-segments_put-end-2 : goal.slice_bounds-segments_put-end-2
slice_bounds-segments_put-end-2 c =
    let t = c.requires in
    let b = bytes c.before.before.before.before.before.before.before.before.before.before.before.before.before.before.before.before.before.before.before in
    omega (arith, t.small, t.room, in_all t b, places t b, head_end t b c.head_put-at.ensures, skeleton_end t b c.skeleton_put-at.ensures, index_end t b c.lists_put-at.ensures)

pub segments_put-at-requires : goal.segments_put-at-requires
segments_put-at-requires c =
    let t = c.requires in
    let b = bytes c.before.before.before.before.before.before.before.before.before.before.before.before.before.before.before.before.before.before.before.before in
    extended_room t b (simp (length-take, length-drop) (omega (arith, third_room t b c.head_put-at.ensures c.skeleton_put-at.ensures c.lists_put-at.ensures)))

pub overflow_add-at-3 : goal.overflow_add-at-3
overflow_add-at-3 c =
    let t = c.requires in
    let b = bytes c.before.before.before.before.before.before.before.before.before.before.before.before.before.before.before.before.before.before.before.before.before.before.before in
    omega (arith, t.small, t.room, in_all t b, places t b, head_end t b c.head_put-at.ensures, skeleton_end t b c.skeleton_put-at.ensures, index_end t b c.lists_put-at.ensures, extended_end t b c.segments_put-at.ensures)

pub slice_bounds-copy-count : goal.slice_bounds-copy-count
slice_bounds-copy-count c =
    let t = c.requires in
    let b = bytes c.before.before.before.before.before.before.before.before.before.before.before.before.before.before.before.before.before.before.before.before.before.before.before in
    omega (arith, t.small, t.room, in_all t b, places t b, head_end t b c.head_put-at.ensures, skeleton_end t b c.skeleton_put-at.ensures, index_end t b c.lists_put-at.ensures, extended_end t b c.segments_put-at.ensures)

pub slice_bounds-copy-start : goal.slice_bounds-copy-start
slice_bounds-copy-start c =
    let t = c.requires in
    let b = bytes c.before.before.before.before.before.before.before.before.before.before.before.before.before.before.before.before.before.before.before.before.before.before.before in
    omega (arith, t.small, t.room, in_all t b, places t b, head_end t b c.head_put-at.ensures, skeleton_end t b c.skeleton_put-at.ensures, index_end t b c.lists_put-at.ensures, extended_end t b c.segments_put-at.ensures)

pub slice_bounds-copy-end : goal.slice_bounds-copy-end
slice_bounds-copy-end c =
    let t = c.requires in
    let b = bytes c.before.before.before.before.before.before.before.before.before.before.before.before.before.before.before.before.before.before.before.before.before.before.before in
    omega (arith, t.small, t.room, in_all t b, places t b, head_end t b c.head_put-at.ensures, skeleton_end t b c.skeleton_put-at.ensures, index_end t b c.lists_put-at.ensures, extended_end t b c.segments_put-at.ensures)

pub slice_bounds-copy-count-2 : goal.slice_bounds-copy-count-2
slice_bounds-copy-count-2 c =
    let t = c.requires in
    let b = bytes c.before.before.before.before.before.before.before.before.before.before.before.before.before.before.before.before.before.before.before.before.before.before.before.before in
    omega (arith, t.small, t.room, in_all t b, places t b, head_end t b c.head_put-at.ensures, skeleton_end t b c.skeleton_put-at.ensures, index_end t b c.lists_put-at.ensures, extended_end t b c.segments_put-at.ensures)

pub slice_bounds-copy-start-2 : goal.slice_bounds-copy-start-2
slice_bounds-copy-start-2 c =
    let t = c.requires in
    let b = bytes c.before.before.before.before.before.before.before.before.before.before.before.before.before.before.before.before.before.before.before.before.before.before.before.before in
    omega (arith, t.small, t.room, in_all t b, places t b, head_end t b c.head_put-at.ensures, skeleton_end t b c.skeleton_put-at.ensures, index_end t b c.lists_put-at.ensures, extended_end t b c.segments_put-at.ensures)

pub slice_bounds-copy-end-2 : goal.slice_bounds-copy-end-2
slice_bounds-copy-end-2 c =
    let t = c.requires in
    let b = bytes c.before.before.before.before.before.before.before.before.before.before.before.before.before.before.before.before.before.before.before.before.before.before.before.before in
    omega (arith, t.small, t.room, in_all t b, places t b, head_end t b c.head_put-at.ensures, skeleton_end t b c.skeleton_put-at.ensures, index_end t b c.lists_put-at.ensures, extended_end t b c.segments_put-at.ensures)

pub copy-at-requires : goal.copy-at-requires
copy-at-requires c =
    rest_fits c.args.old.now c.args.site c.args.sizes c.head_put-at.ensures c.skeleton_put-at.ensures c.lists_put-at.ensures c.segments_put-at.ensures c.requires (bytes c.before.before.before.before.before.before.before.before.before.before.before.before.before.before.before.before.before.before.before.before.before.before.before.before.before)

pub overflow_add-at-4 : goal.overflow_add-at-4
overflow_add-at-4 c =
    omega (arith, c.requires.small, (whole c.requires (bytes c.before.before.before.before.before.before.before.before.before.before.before.before.before.before.before.before.before.before.before.before.before.before.before.before.before.before.before.before) (rebuilt c.args.old.now c.args.site c.args.sizes c.head_put-at.ensures c.skeleton_put-at.ensures c.lists_put-at.ensures c.segments_put-at.ensures (bytes c.before.before.before.before.before.before.before.before.before.before.before.before.before.before.before.before.before.before.before.before.before.before.before.before.before.before.before.before) c.copy-at.ensures)).0)

pub shape_of-out : goal.shape_of-out
shape_of-out c =
    (whole c.requires (bytes c.before.before.before.before.before.before.before.before.before.before.before.before.before.before.before.before.before.before.before.before.before.before.before.before.before.before.before.before) (rebuilt c.args.old.now c.args.site c.args.sizes c.head_put-at.ensures c.skeleton_put-at.ensures c.lists_put-at.ensures c.segments_put-at.ensures (bytes c.before.before.before.before.before.before.before.before.before.before.before.before.before.before.before.before.before.before.before.before.before.before.before.before.before.before.before.before) c.copy-at.ensures)).1

pub returns : goal.returns
returns c =
    rebuilt c.args.old.now c.args.site c.args.sizes c.head_put-at.ensures c.skeleton_put-at.ensures c.lists_put-at.ensures c.segments_put-at.ensures (bytes c.before.before.before.before.before.before.before.before.before.before.before.before.before.before.before.before.before.before.before.before.before.before.before.before.before.before.before.before) c.copy-at.ensures
