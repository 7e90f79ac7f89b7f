-- Width by width, up to 16. The invariant: no width before this one holds the number.
use Rattle.order_lists.proofs.Laws.Width.{looking_first, looking_holds, looking_next, looking_last}
use Rattle.order_lists.proofs.width.least_width.Goals as goal

pub loop-w-init : goal.loop-w-init
loop-w-init c =
    looking_first c.args.most

pub returns-then-most-w : goal.returns-then-most-w
returns-then-most-w c =
    looking_holds c.loop-w.invariant c.loop-w-test.true c.if-most-w.true

pub loop-w-preserved : goal.loop-w-preserved
loop-w-preserved c =
    looking_next c.loop-w.invariant c.loop-w-test.true c.if-most-w.false

pub returns : goal.returns
returns c =
    looking_last c.loop-w.invariant c.loop-w-test.false
