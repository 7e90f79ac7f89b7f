-- Segment by segment. The invariant is which segments are left, whatever segments the block has.
use mathlib.Core.Path.{◌≡◌}
use native.Mathlib.Omega.{arith}
use Rattle.bits.proofs.Laws.Place.{all_bytes}
use Rattle.outcome.specs.Refusals.{bad_segment}
use Rattle.find_parts.proofs.Laws.Segments.{past_none, past_next, segment_next, its_length}
use Rattle.find_parts.proofs.segments.pass_segments.Goals as goal

pub loop-count-init : goal.loop-count-init
loop-count-init c = past_none c.args.block.now

pub sure-next-requires : goal.sure-next-requires
sure-next-requires c =
    let pre = c.requires in
    let t = segment_next (all_bytes c.args.block.now (λ i. (c.type_inv.block i).fits)) (c.loop-count.invariant pre.value pre.left pre.reads).1 c.if-block-next.false in
    (pre.short, omega arith, omega (arith, t.there.within))

pub overflow_add-next-in-loop-count : goal.overflow_add-next-in-loop-count
overflow_add-next-in-loop-count c =
    let pre = c.requires in
    let t = segment_next (all_bytes c.args.block.now (λ i. (c.type_inv.block i).fits)) (c.loop-count.invariant pre.value pre.left pre.reads).1 c.if-block-next.false in
    omega (arith, its_length t (c.sure-next.ensures.0 bad_segment), t.there.within, pre.short)

pub loop-count-preserved : goal.loop-count-preserved
loop-count-preserved c =
    past_next (all_bytes c.args.block.now (λ i. (c.type_inv.block i).fits)) c.loop-count.invariant c.if-block-next.false (c.sure-next.ensures.0 bad_segment)

pub returns : goal.returns
returns c =
    let e : c.args.most ≡ c.loop-count.count = omega arith in
    rw e (record { upto = omega arith; all = λ k. absurd (omega arith); is = c.loop-count.invariant })
