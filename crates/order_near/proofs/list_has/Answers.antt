-- Line by line. The invariant: the line is in the list if it is in what is still to come.
use native.Mathlib.Omega.{arith}
use Rattle.order_near.proofs.Laws.{looking_first, looking_found, looking_next, looking_done}
use Rattle.order_near.proofs.list_has.Goals as goal

pub loop-k-init : goal.loop-k-init
loop-k-init c =
    (c.requires.narrow, looking_first c.args.block.now c.args.low c.args.from)

pub next_line-step-requires : goal.next_line-step-requires
next_line-step-requires c =
    let p = c.requires in
    let g = c.loop-k.invariant.1 p.value p.behind p.at in
    record { narrow = c.loop-k.invariant.0; short = p.short; more = omega (arith, c.loop-k-test.true); value = g.ms; behind = p.behind; at = g.at }

pub returns-then-step-low : goal.returns-then-step-low
returns-then-step-low c =
    looking_found c.args.block.now c.args.low c.loop-k.invariant.1 c.next_line-step.ensures (omega (arith, c.if-step-low.true))

pub loop-k-smaller : goal.loop-k-smaller
loop-k-smaller c =
    c.next_line-step.ensures.less

pub loop-k-preserved : goal.loop-k-preserved
loop-k-preserved c =
    (omega (arith, c.next_line-step.ensures.width, c.loop-k.invariant.0), looking_next c.args.block.now c.args.low c.loop-k.invariant.1 c.next_line-step.ensures (omega (arith, c.if-step-low.false)))

pub returns : goal.returns
returns c =
    looking_done c.args.block.now c.args.low c.loop-k.invariant.1 (omega (arith, c.loop-k-test.false))
