-- The list word by word. The loop's invariant: what is left of it is as right as the whole.
use mathlib.Core.Path.{sym}
use native.Mathlib.Omega.{arith}
use Rattle.order_words.proofs.Laws.Shape.{shape_none, shape_over, shape_many, shaping_start, shaping_other, shaping_next, shaping_done}
use Rattle.order_words.proofs.shape_right.Goals as goal
use Rattle.order_words.proofs.shape_right.Goals.{then-size-eq0-via-then-size-eq0, then-size-eq0-via-else-size-eq0+then-size-ne0, then-size-eq0-via-else-size-eq0+else-size-ne0+then-size-gt-MOST}

pub returns-then-size-eq0 : goal.returns-then-size-eq0
returns-then-size-eq0 c =
    sym (elim c.then-size-eq0.branch [
      | then-size-eq0-via-then-size-eq0 w ↦ shape_none c.args.list.now w.if-size-eq0.true
      | then-size-eq0-via-else-size-eq0+then-size-ne0 w ↦ shape_over c.args.list.now w.if-size-ne0.true
      | then-size-eq0-via-else-size-eq0+else-size-ne0+then-size-gt-MOST w ↦ shape_many c.args.list.now w.if-size-gt-MOST.true
    ])

pub loop-i-init : goal.loop-i-init
loop-i-init c =
    shaping_start c.args.list.now c.if-size-eq0.false c.if-size-ne0.false c.if-size-gt-MOST.false

pub returns-then-two_at-gt1 : goal.returns-then-two_at-gt1
returns-then-two_at-gt1 c =
    sym (shaping_other c.loop-i.invariant (omega arith) c.two_at.ensures c.if-two_at-gt1.true)

pub loop-i-preserved : goal.loop-i-preserved
loop-i-preserved c =
    shaping_next c.loop-i.invariant (omega arith) c.two_at.ensures c.if-two_at-gt1.false (omega arith)

pub returns : goal.returns
returns c =
    sym (shaping_done c.loop-i.invariant (omega (arith, c.loop-i.invariant.whole)))
