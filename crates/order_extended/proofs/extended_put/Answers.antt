-- Segment by segment. The invariant: those before are laid, the others are still to come.
use native.Mathlib.Omega.{arith}
use Rattle.bits.proofs.Laws.Place.{all_bytes}
use Rattle.order_segments.proofs.Laws.Over.{block_whole}
use Rattle.order_extended.proofs.Laws.Extended.{putting_first, room_left, put_there, putting_next, put_done}
use Rattle.order_extended.proofs.extended_put.Goals as goal

pub loop-segment-init-derived : goal.loop-segment-init-derived
loop-segment-init-derived c =
    let p = c.requires.there.block in
    rw c.into_iter-segment-iterator.ensures.into_iter_gives (block_whole c.args.block.now p.value p.left p.reads (all_bytes c.args.block.now (λ i. (c.type_inv.block i).fits)), tt)

pub loop-segment-init : goal.loop-segment-init
loop-segment-init c =
    let p = c.requires.there.block in
    let b = all_bytes c.args.block.now (λ i. (c.type_inv.block i).fits) in
    rw c.into_iter-segment-iterator.ensures.into_iter_gives (block_whole c.args.block.now p.value p.left p.reads b, putting_first c.args.lines c.args.removal.now c.args.out.now c.args.block.now b)

pub slice_bounds-segment_put-count : goal.slice_bounds-segment_put-count
slice_bounds-segment_put-count c =
    omega (arith, room_left c.args.lines c.args.removal.now c.args.out.now c.loop-segment.invariant.1 c.requires)

pub slice_bounds-segment_put-start : goal.slice_bounds-segment_put-start
slice_bounds-segment_put-start c =
    omega (arith, room_left c.args.lines c.args.removal.now c.args.out.now c.loop-segment.invariant.1 c.requires)

pub segment_put-at-requires : goal.segment_put-at-requires
segment_put-at-requires c =
    put_there c.args.lines c.args.removal.now c.args.out.now c.loop-segment.invariant.1 c.in-Some.ensures.steps c.requires

pub overflow_add-at : goal.overflow_add-at
overflow_add-at c =
    omega (arith, room_left c.args.lines c.args.removal.now c.args.out.now (putting_next c.args.lines c.args.removal.now c.args.out.now c.loop-segment.invariant.1 c.in-Some.ensures.steps c.segment_put-at.ensures) c.requires)

pub loop-segment-preserved : goal.loop-segment-preserved
loop-segment-preserved c =
    (c.in-Some.ensures.goes.keeps, putting_next c.args.lines c.args.removal.now c.args.out.now c.loop-segment.invariant.1 c.in-Some.ensures.steps c.segment_put-at.ensures)

pub returns : goal.returns
returns c = put_done c.args.lines c.args.removal.now c.args.out.now c.loop-segment.invariant.1 c.in-None.ensures.steps.0
