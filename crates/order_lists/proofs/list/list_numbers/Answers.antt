-- Line by line. The invariant holds of whatever lines the list has: those that stay are counted so far, the others are to come.
use native.Mathlib.Omega.{arith}
use Prim.Native.Nat.{◌-◌}
use Rattle.order_lists.proofs.Laws.List.{measuring_first, measuring_gone, next_falls, measuring_stays, measured}
use Rattle.order_lists.proofs.list.list_numbers.Goals as goal

pub loop-k-init : goal.loop-k-init
loop-k-init c =
    (c.requires.narrow, omega (arith, c.requires.few, c.requires.lines, c.requires.at.within), measuring_first)

pub overflow_add-k : goal.overflow_add-k
overflow_add-k c =
    omega (arith, c.loop-k.invariant.1)

pub step_on-step-requires : goal.step_on-step-requires
step_on-step-requires c =
    let p = c.requires in
    let m = (c.loop-k.invariant.2 c.requires.value c.requires.behind c.requires.at c.requires.falls) in
    record { narrow = c.loop-k.invariant.0; short = p.short; more = omega (arith, c.loop-k-test.true); before = m.top; value = m.ms; behind = p.behind; at = m.at }

pub fate_of-requires : goal.fate_of-requires
fate_of-requires c =
    c.requires.rising

pub loop-k-smaller-in_default : goal.loop-k-smaller-in_default
loop-k-smaller-in_default c =
    c.step_on-step.ensures.less

pub loop-k-preserved-in_default : goal.loop-k-preserved-in_default
loop-k-preserved-in_default c =
    (omega (arith, c.loop-k.invariant.0, c.step_on-step.ensures.width), omega (arith, c.loop-k.invariant.1, c.step_on-step.ensures.less), measuring_gone c.loop-k.invariant.2 c.step_on-step.ensures c.in_default.ensures)

pub overflow_sub-before : goal.overflow_sub-before
overflow_sub-before c =
    omega (arith, next_falls c.loop-k.invariant.2 c.step_on-step.ensures c.in-Some.line c.in-Some.ensures.1 c.in-Some.ensures.0 (c.loop-k.invariant.2 c.requires.value c.requires.behind c.requires.at c.requires.falls))

pub overflow_add-count : goal.overflow_add-count
overflow_add-count c =
    omega (arith, c.loop-k.invariant.1, c.loop-k-test.true)

pub loop-k-smaller : goal.loop-k-smaller
loop-k-smaller c =
    c.step_on-step.ensures.less

pub loop-k-preserved : goal.loop-k-preserved
loop-k-preserved c =
    (omega (arith, c.loop-k.invariant.0, c.step_on-step.ensures.width), omega (arith, c.loop-k.invariant.1, c.step_on-step.ensures.less), measuring_stays c.loop-k.invariant.2 c.step_on-step.ensures c.in-Some.line c.in-Some.ensures.1 c.in-Some.ensures.0 c.max-most.ensures)

pub returns : goal.returns
returns c =
    measured c.loop-k.invariant.2 (omega (arith, c.loop-k-test.false))
