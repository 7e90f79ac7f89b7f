-- The loop's invariant: the lists before this byte are right and take so many bits, whatever fields stand from byte p on.
use mathlib.Core.Path.{ap, ◌∙◌}
use Prim.Native.Nat.{ℕ, ◌%◌}
use native.Mathlib.Omega.{arith}
use Rattle.check_blocks.proofs.Laws.Told.{told_right, told_wrong}
use Rattle.check_blocks.proofs.Laws.Lists.{list_three, list_there, lists_wrong, lists_on, lists_all}
use Rattle.check_blocks.proofs.run.list_values.Goals as goal

pub two_at-size-requires : goal.two_at-size-requires
two_at-size-requires c = omega (arith, list_three c.loop-size.invariant c.requires.0 c.starts.ensures c.loop-size-test.true)

pub slice_bounds-value-end : goal.slice_bounds-value-end
slice_bounds-value-end c =
    let N = list_there c.loop-size.invariant c.requires.0 c.starts.ensures c.loop-size-test.true c.two_at-size.ensures in
    omega (arith, N.held.there)

pub list_value-requires : goal.list_value-requires
list_value-requires c =
    let N = list_there c.loop-size.invariant c.requires.0 c.starts.ensures c.loop-size-test.true c.two_at-size.ensures in
    (ap (λ (n : ℕ). n % 2) N.held.long ∙ N.even, omega (arith, N.most, N.held.long), c.requires.1, N.few)

pub returns-then-not-list_value : goal.returns-then-not-list_value
returns-then-not-list_value c =
    let N = list_there c.loop-size.invariant c.requires.0 c.starts.ensures c.loop-size-test.true c.two_at-size.ensures in
    lists_wrong c.loop-size.invariant N (told_wrong _ _ _ c.if-not-list_value.true c.list_value.ensures)

pub loop-size-preserved : goal.loop-size-preserved
loop-size-preserved c =
    let N = list_there c.loop-size.invariant c.requires.0 c.starts.ensures c.loop-size-test.true c.two_at-size.ensures in
    lists_on c.loop-size.invariant N c.requires.1 (told_right _ _ _ c.if-not-list_value.false c.list_value.ensures)

pub returns : goal.returns
returns c = lists_all c.loop-size.invariant c.requires.0 c.starts.ensures c.loop-size-test.false
