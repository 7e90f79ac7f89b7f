-- Element by element. The invariant: the line's distances are those counted and those still to come.
use native.Mathlib.Omega.{arith}
use mathlib.Core.Path.{◌∙◌}
use Rattle.outcome.specs.Refusals.{bad_pores}
use Rattle.pores_elements.proofs.ElementLaws.{pow_four}
use Rattle.pores_lines.proofs.Laws.{going_first, no_mark, other_mark, zero_breaks, zero_ends, going_ones, going_distance, end_breaks, end_ends}
use Rattle.pores_lines.proofs.line_at.Goals as goal

pub overflow_mul-end : goal.overflow_mul-end
overflow_mul-end c =
    omega (arith, c.requires.short)

pub overflow_sub-end : goal.overflow_sub-end
overflow_sub-end c =
    omega (arith, c.requires.within)

pub returns-then-end-at : goal.returns-then-end-at
returns-then-end-at c =
    no_mark c.args.payload.now c.args.at c.args.e c.if-end-at.true

pub sure-mark-requires : goal.sure-mark-requires
sure-mark-requires c =
    (c.requires.short, omega (arith, c.requires.high), omega (arith, c.requires.within, c.if-end-at.false))

pub returns-then-mark-ne0 : goal.returns-then-mark-ne0
returns-then-mark-ne0 c =
    other_mark c.args.payload.now c.args.at c.args.e (c.sure-mark.ensures.0 bad_pores) c.if-mark-ne0.true

pub pow2-ones-requires : goal.pow2-ones-requires
pow2-ones-requires c =
    c.requires.high

pub overflow_sub-ones : goal.overflow_sub-ones
overflow_sub-ones c =
    omega (arith, c.pow2-ones.ensures, pow_four c.args.e c.requires.low)

pub overflow_add-p : goal.overflow_add-p
overflow_add-p c =
    omega (arith, c.requires.short, c.requires.within, c.requires.high)

pub loop-p-init : goal.loop-p-init
loop-p-init c =
    let n = c.sure-mark.ensures.1 in
    rw n at (going_first c.args.payload.now c.args.at c.args.e (c.sure-mark.ensures.0 bad_pores) c.if-mark-ne0.false n c.requires.low)

pub overflow_sub-end-in-loop-p : goal.overflow_sub-end-in-loop-p
overflow_sub-end-in-loop-p c =
    omega (arith, c.loop-p.invariant.within)

pub sure-element-requires : goal.sure-element-requires
sure-element-requires c =
    (c.requires.short, omega (arith, c.requires.high), omega (arith, c.loop-p.invariant.within, c.loop-p-test.true))

pub returns-then-underway : goal.returns-then-underway
returns-then-underway c =
    zero_breaks c.args.payload.now c.args.at c.args.e c.loop-p.invariant (c.sure-element.ensures.0 bad_pores) c.if-element-eq0.true c.if-underway.true

pub returns-then-element-eq0 : goal.returns-then-element-eq0
returns-then-element-eq0 c =
    zero_ends c.args.payload.now c.args.at c.args.e c.loop-p.invariant (c.sure-element.ensures.0 bad_pores) c.if-element-eq0.true c.if-underway.false

pub overflow_add-p-in-loop-p : goal.overflow_add-p-in-loop-p
overflow_add-p-in-loop-p c =
    omega (arith, c.requires.short, c.loop-p.invariant.within, c.requires.high)

pub loop-p-smaller-then-element-ones : goal.loop-p-smaller-then-element-ones
loop-p-smaller-then-element-ones c =
    omega (arith, c.loop-p-test.true, c.requires.low)

pub loop-p-preserved-then-element-ones : goal.loop-p-preserved-then-element-ones
loop-p-preserved-then-element-ones c =
    let n = c.sure-element.ensures.1 in
    rw n at (going_ones c.args.payload.now c.args.at c.args.e c.loop-p.invariant (c.sure-element.ensures.0 bad_pores) c.if-element-eq0.false n c.requires.low (c.if-element-ones.true ∙ omega (arith, c.pow2-ones.ensures)))

pub overflow_add-count : goal.overflow_add-count
overflow_add-count c =
    omega (arith, c.requires.short, c.loop-p.invariant.within, c.loop-p.invariant.after)

pub loop-p-smaller : goal.loop-p-smaller
loop-p-smaller c =
    omega (arith, c.loop-p-test.true, c.requires.low)

pub loop-p-preserved : goal.loop-p-preserved
loop-p-preserved c =
    let n = c.sure-element.ensures.1 in
    rw n at (going_distance c.args.payload.now c.args.at c.args.e c.loop-p.invariant (c.sure-element.ensures.0 bad_pores) c.if-element-eq0.false n c.requires.low (λ z. c.if-element-ones.false (z ∙ omega (arith, c.pow2-ones.ensures))))

pub returns-then-underway-2 : goal.returns-then-underway-2
returns-then-underway-2 c =
    end_breaks c.args.payload.now c.args.at c.args.e c.loop-p.invariant (omega (arith, c.loop-p-test.false)) c.if-underway-2.true

pub returns : goal.returns
returns c =
    end_ends c.args.payload.now c.args.at c.args.e c.loop-p.invariant (omega (arith, c.loop-p-test.false)) c.if-underway-2.false
