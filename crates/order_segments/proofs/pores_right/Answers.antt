-- Segment by segment. The invariant: all pores are right if those still to come are.
use native.Mathlib.Omega.{arith}
use mathlib.Core.Path.{ap, ◌∙◌}
use mathlib.Core.Bool.{Bool, not}
use lib.ListN.{length, length-drop, length-take}
use Rattle.bits.proofs.Laws.Place.{all_bytes}
use Rattle.pores.specs.Keep.{pores_right, all_pores_right}
use Rattle.order_segments.specs.Walk.{segments_in}
use Rattle.order_segments.proofs.Laws.Over.{Here, stored_long, block_whole, segment_here}
use Rattle.order_segments.proofs.Laws.Seen.{Seen, seeing_first, seeing_fails, seeing_next, seeing_done, other_passes, pores_tested, judged}
use Rattle.order_segments.proofs.pores_right.Goals as goal
use Rattle.order_segments.proofs.pores_right.Goals.{In-Some}

here : (c : In-Some) → Here (Seen (pores_right c.args.lines)) c.requires.block.value c.in-Some.segment.now (segments_in c.next.new.self.0.now)
here c =
    let b = c.requires.block in
    segment_here (Seen (pores_right c.args.lines)) c.loop-segment.invariant.1 c.in-Some.ensures.steps b.value b.left b.reads

pub loop-segment-init : goal.loop-segment-init
loop-segment-init c =
    let p = c.requires.block in
    let b = all_bytes c.args.block.now (λ i. (c.type_inv.block i).fits) in
    rw c.into_iter-segment-iterator.ensures.into_iter_gives (block_whole c.args.block.now p.value p.left p.reads b, seeing_first (pores_right c.args.lines) c.args.block.now b)

pub two_at-requires : goal.two_at-requires
two_at-requires c =
    let t = here (goal.at.two_at-requires c).In-Some in omega (arith, ap length t.is, stored_long t.value)

pub loop-segment-preserved-then-two_at-ne-PORES : goal.loop-segment-preserved-then-two_at-ne-PORES
loop-segment-preserved-then-two_at-ne-PORES c =
    (c.in-Some.ensures.goes.keeps, seeing_next (pores_right c.args.lines) c.loop-segment.invariant.1 c.in-Some.ensures.steps (λ g is. other_passes c.two_at.ensures g is c.args.lines c.if-two_at-ne-PORES.true))

pub slice_bounds-judge_payload-count : goal.slice_bounds-judge_payload-count
slice_bounds-judge_payload-count c =
    let t = here (goal.at.slice_bounds-judge_payload-count c).In-Some in omega (arith, ap length t.is, stored_long t.value)

pub slice_bounds-judge_payload-start : goal.slice_bounds-judge_payload-start
slice_bounds-judge_payload-start c =
    let t = here (goal.at.slice_bounds-judge_payload-start c).In-Some in omega (arith, ap length t.is, stored_long t.value)

pub judge_payload-requires : goal.judge_payload-requires
judge_payload-requires c =
    let t = here (goal.at.judge_payload-requires c).In-Some in
    record { short = simp (length-take, length-drop) (omega (arith, ap length t.is, stored_long t.value, t.fits.length)) }

pub returns-then-is_none : goal.returns-then-is_none
unfolding all_pores_right
returns-then-is_none c =
    let e = c.is_none.ensures ∙ ap (λ (x : Bool). not x) c.if-is_none.true in
    seeing_fails (pores_right c.args.lines) c.loop-segment.invariant.1 c.in-Some.ensures.steps (λ g is. pores_tested c.two_at.ensures g is c.args.lines c.if-two_at-ne-PORES.false (judged c.args.lines _ c.judge_payload.result c.judge_payload.ensures e))

pub loop-segment-preserved : goal.loop-segment-preserved
loop-segment-preserved c =
    let e = c.is_none.ensures ∙ ap (λ (x : Bool). not x) c.if-is_none.false in
    (c.in-Some.ensures.goes.keeps, seeing_next (pores_right c.args.lines) c.loop-segment.invariant.1 c.in-Some.ensures.steps (λ g is. pores_tested c.two_at.ensures g is c.args.lines c.if-two_at-ne-PORES.false (judged c.args.lines _ c.judge_payload.result c.judge_payload.ensures e)))

pub returns : goal.returns
unfolding all_pores_right
returns c = seeing_done (pores_right c.args.lines) c.loop-segment.invariant.1 c.in-None.ensures.steps.0
