-- Segment by segment. The invariant: those before have so many bytes, the others are still to come.
use native.Mathlib.Omega.{arith}
use Rattle.bits.proofs.Laws.Place.{all_bytes}
use Rattle.order_segments.proofs.Laws.Over.{block_whole}
use Rattle.order_extended.proofs.Laws.Extended.{sizing_first, size_small, size_there, sizing_next, sized}
use Rattle.order_extended.proofs.extended_size.Goals as goal

pub loop-segment-init-derived : goal.loop-segment-init-derived
loop-segment-init-derived c =
    let p = c.requires.block in
    rw c.into_iter-segment-iterator.ensures.into_iter_gives (block_whole c.args.block.now p.value p.left p.reads (all_bytes c.args.block.now (λ i. (c.type_inv.block i).fits)), tt)

pub loop-segment-init : goal.loop-segment-init
loop-segment-init c =
    let p = c.requires.block in
    let b = all_bytes c.args.block.now (λ i. (c.type_inv.block i).fits) in
    rw c.into_iter-segment-iterator.ensures.into_iter_gives (block_whole c.args.block.now p.value p.left p.reads b, sizing_first c.args.lines c.args.removal.now c.args.block.now b)

pub segment_size-size-requires : goal.segment_size-size-requires
segment_size-size-requires c =
    size_there c.args.lines c.args.removal.now c.loop-segment.invariant.1 c.in-Some.ensures.steps c.requires

pub overflow_add-size : goal.overflow_add-size
overflow_add-size c =
    omega (arith, size_small c.args.lines c.args.removal.now (sizing_next c.args.lines c.args.removal.now c.loop-segment.invariant.1 c.in-Some.ensures.steps c.segment_size-size.ensures) c.requires)

pub loop-segment-preserved : goal.loop-segment-preserved
loop-segment-preserved c =
    (c.in-Some.ensures.goes.keeps, sizing_next c.args.lines c.args.removal.now c.loop-segment.invariant.1 c.in-Some.ensures.steps c.segment_size-size.ensures)

pub returns : goal.returns
returns c = sized c.args.lines c.args.removal.now c.loop-segment.invariant.1 c.in-None.ensures.steps.0
