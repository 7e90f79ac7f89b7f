-- The list number by number. The loop's invariant: what is left of it is as right as the whole.
use mathlib.Core.Path.{sym}
use native.Mathlib.Omega.{arith}
use Rattle.order_removal.proofs.Laws.Listed.{lines_none, lines_odd, testing_start, testing_bad, testing_next, testing_done}
use Rattle.order_removal.proofs.lines_right.Goals as goal
use Rattle.order_removal.proofs.lines_right.Goals.{then-size-eq0-via-then-size-eq0, then-size-eq0-via-else-size-eq0+then-size-ne0}

pub returns-then-size-eq0 : goal.returns-then-size-eq0
returns-then-size-eq0 c =
    sym (elim c.then-size-eq0.branch [
      | then-size-eq0-via-then-size-eq0 w ↦ lines_none c.args.count c.args.removal.now w.if-size-eq0.true
      | then-size-eq0-via-else-size-eq0+then-size-ne0 w ↦ lines_odd c.args.count c.args.removal.now w.if-size-ne0.true
    ])

pub loop-i-init : goal.loop-i-init
loop-i-init c =
    testing_start c.args.count c.args.removal.now c.if-size-eq0.false c.if-size-ne0.false

pub returns-then-line-least : goal.returns-then-line-least
returns-then-line-least c =
    sym (testing_bad c.args.count c.loop-i.invariant (omega arith) c.two_at-line.ensures c.then-line-least.either)

pub loop-i-preserved : goal.loop-i-preserved
loop-i-preserved c =
    testing_next c.args.count c.loop-i.invariant (omega arith) c.two_at-line.ensures c.if-line-least.false c.if-count-line.false (omega arith)

pub returns : goal.returns
returns c =
    sym (testing_done c.args.count c.loop-i.invariant (omega (arith, c.loop-i.invariant.even)))
