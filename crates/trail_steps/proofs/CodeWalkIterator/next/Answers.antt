-- A code is read, and the step of it taken: the walk stands behind it.
use Rattle.std.proofs.Common.{sym, ap, ◌∙◌, length, arith}
use Rattle.bits.proofs.Laws.Reads.{below}
use Rattle.outcome.specs.Refusals.{bad_line}
use Rattle.trail_steps.proofs.Laws.{still_ready, goes_on, at_end}
use Rattle.trail_steps.proofs.CodeWalkIterator.next.Goals as goal

pub step-requires : goal.step-requires
step-requires c =
    let h = c.loop-self.invariant.0 in (h.low, h.high, below bad_line _ (c.sure-code.ensures.0 bad_line), h.some, h.few, h.below)

pub loop-self-preserved : goal.loop-self-preserved
loop-self-preserved c =
    let (h, e) = c.loop-self.invariant in
    let (r, n) = c.sure-code.ensures in
    let st = rw c.in_default.is at c.step.ensures in
    (still_ready _ h c.loop-self-test.true _ (r bad_line) n st, sym (goes_on _ h c.loop-self-test.true _ (r bad_line) n st) ∙ e)

pub returns-in-Some-clause-steps : goal.returns-in-Some-clause-steps
returns-in-Some-clause-steps c =
    let (h, e) = c.loop-self.invariant in
    let (r, n) = c.sure-code.ensures in
    let st = rw c.in-Some.is at c.step.ensures in
    sym e ∙ goes_on _ h c.loop-self-test.true _ (r bad_line) n st

pub returns-in-Some-clause-goes : goal.returns-in-Some-clause-goes
returns-in-Some-clause-goes c =
    let (h, e) = c.loop-self.invariant in
    let (r, n) = c.sure-code.ensures in
    let st = rw c.in-Some.is at c.step.ensures in
    let d = ap length (sym e ∙ goes_on _ h c.loop-self-test.true _ (r bad_line) n st) in
    let ready = still_ready _ h c.loop-self-test.true _ (r bad_line) n st in
    record { on = λ f. (ready, f, omega (arith, d)); keeps = ready; rests = λ f. tt }

pub returns-clause-steps : goal.returns-clause-steps
returns-clause-steps c =
    let e = at_end c.loop-self.self (omega arith) in
    (sym c.loop-self.invariant.1 ∙ e, e)
