-- The loop's invariant: the neighbours before i are right, so the test of the rest says what the test of them all says.
use native.Mathlib.Omega.{arith}
use mathlib.Core.Path.{sym, ◌∙◌}
use Rattle.bits.proofs.Laws.Reads.{below}
use Rattle.outcome.specs.Refusals.{bad_value}
use Rattle.check_value.proofs.Laws.List.{too_many, list_turn, too_high, too_far, list_done}
use Rattle.check_value.proofs.list.list_value.Goals as goal

pub returns-then-not-narrow : goal.returns-then-not-narrow
returns-then-not-narrow c =
    too_many _ _ _ c.requires.0 (sym c.narrow.ensures ∙ c.if-not-narrow.true)

pub overflow_add-n : goal.overflow_add-n
overflow_add-n c =
    omega (arith, below bad_value 16 (c.sure-n.ensures.0 bad_value), c.loop-i.invariant.1)

pub returns-then-before-n : goal.returns-then-before-n
returns-then-before-n c =
    too_high _ _ _ c.requires.0 c.loop-i.invariant.0 c.loop-i-test.true (c.sure-n.ensures.0 bad_value) c.if-before-n.true

pub returns-then-not-narrow-2 : goal.returns-then-not-narrow-2
returns-then-not-narrow-2 c =
    too_far _ _ _ c.requires.0 c.loop-i.invariant.0 c.loop-i-test.true (c.sure-n.ensures.0 bad_value) (sym c.narrow-in-loop-i.ensures ∙ c.if-not-narrow-2.true)

pub loop-i-preserved : goal.loop-i-preserved
loop-i-preserved c =
    (list_turn _ _ _ c.requires.0 c.loop-i.invariant.0 c.loop-i-test.true (c.sure-n.ensures.0 bad_value) c.sure-n.ensures.1 c.if-before-n.false (sym c.narrow-in-loop-i.ensures ∙ c.if-not-narrow-2.false), omega arith)

pub returns : goal.returns
returns c =
    list_done _ _ _ c.requires.0 c.loop-i.invariant.0 c.loop-i-test.false (sym c.narrow.ensures ∙ c.if-not-narrow.false)
