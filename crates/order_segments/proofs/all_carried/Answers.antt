-- Segment by segment. The invariant: all are of the two types if those still to come are.
use native.Mathlib.Omega.{arith}
use mathlib.Core.Path.{ap}
use lib.ListN.{length}
use Rattle.bits.proofs.Laws.Place.{all_bytes}
use Rattle.orders.specs.Order.{carried}
use Rattle.order_segments.proofs.Laws.Over.{stored_long, block_whole, segment_here}
use Rattle.order_segments.proofs.Laws.Seen.{Seen, seeing_first, seeing_fails, seeing_next, seeing_done, low_fails, high_fails, type_passes}
use Rattle.order_segments.proofs.all_carried.Goals as goal

pub loop-segment-init : goal.loop-segment-init
loop-segment-init c =
    let p = c.requires in
    let b = all_bytes c.args.block.now (λ i. (c.type_inv.block i).fits) in
    rw c.into_iter-segment-iterator.ensures.into_iter_gives (block_whole c.args.block.now p.value p.left p.reads b, seeing_first carried c.args.block.now b)

pub two_at-kind-requires : goal.two_at-kind-requires
two_at-kind-requires c =
    let p = c.requires in
    let t = segment_here (Seen carried) c.loop-segment.invariant.1 c.in-Some.ensures.steps p.value p.left p.reads in
    omega (arith, ap length t.is, stored_long t.value)

pub returns-then-kind-lt-LOCAL_QUALITY : goal.returns-then-kind-lt-LOCAL_QUALITY
returns-then-kind-lt-LOCAL_QUALITY c =
    seeing_fails carried c.loop-segment.invariant.1 c.in-Some.ensures.steps (λ g is. low_fails c.two_at-kind.ensures g is c.if-kind-lt-LOCAL_QUALITY.true)

pub returns-then-kind-gt-PORES : goal.returns-then-kind-gt-PORES
returns-then-kind-gt-PORES c =
    seeing_fails carried c.loop-segment.invariant.1 c.in-Some.ensures.steps (λ g is. high_fails c.two_at-kind.ensures g is c.if-kind-gt-PORES.true)

pub loop-segment-preserved : goal.loop-segment-preserved
loop-segment-preserved c =
    (c.in-Some.ensures.goes.keeps, seeing_next carried c.loop-segment.invariant.1 c.in-Some.ensures.steps (λ g is. type_passes c.two_at-kind.ensures g is c.if-kind-lt-LOCAL_QUALITY.false c.if-kind-gt-PORES.false))

pub returns : goal.returns
returns c = seeing_done carried c.loop-segment.invariant.1 c.in-None.ensures.steps.0
