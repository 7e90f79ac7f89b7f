-- The first three bytes, then line by line, then what is left. The invariant: what the payload says is counted, with what is to come.
use native.Mathlib.Omega.{arith}
use Rattle.outcome.specs.Refusals.{bad_pores}
use Rattle.pores_judge.proofs.Laws.Judging.{too_short, third, outside, judging_start, line_broken, judging_next, too_much, not_zero, payload_right}
use Rattle.pores_judge.proofs.judge_payload.Goals as goal

pub returns-then-payload-lt3 : goal.returns-then-payload-lt3
returns-then-payload-lt3 c =
    too_short c.args.lines c.args.payload.now c.if-payload-lt3.true

pub returns-in_default : goal.returns-in_default
returns-in_default c =
    outside c.args.lines c.args.payload.now c.if-payload-lt3.false (c.in_default.ensures bad_pores)

pub loop-init : goal.loop-init
loop-init c =
    judging_start c.args.lines c.args.payload.now c.if-payload-lt3.false (c.in-Ok.ensures bad_pores)

pub line_at-requires : goal.line_at-requires
line_at-requires c =
    let (_, low, high) = third c.args.lines c.args.payload.now c.if-payload-lt3.false (c.in-Ok.ensures bad_pores) in
    record { short = c.requires.short; low = low; high = high; within = c.loop.invariant.within }

pub returns-in_err-line : goal.returns-in_err-line
returns-in_err-line c =
    rw c.from_residual.ensures (line_broken c.loop.invariant c.loop-test.true c.in_err-line.ensures)

pub loop-preserved : goal.loop-preserved
loop-preserved c =
    judging_next c.loop.invariant c.loop-test.true c.in_ok-line.ensures

pub returns-then-left-ge8 : goal.returns-then-left-ge8
returns-then-left-ge8 c =
    too_much c.loop.invariant c.loop-test.false c.if-left-ge8.true

pub returns-then-padding-ne0 : goal.returns-then-padding-ne0
returns-then-padding-ne0 c =
    not_zero c.loop.invariant c.loop-test.false _ (c.sure-padding.ensures.0 bad_pores) c.if-padding-ne0.true

pub returns : goal.returns
returns c =
    payload_right c.loop.invariant c.loop-test.false _ (c.sure-padding.ensures.0 bad_pores) c.if-padding-ne0.false c.if-left-ge8.false (omega arith) c.sure-padding.ensures.1
