-- Line by line. The invariant is which lines are left, whatever lines the block has.
use mathlib.Core.Path.{◌≡◌}
use native.Mathlib.Omega.{arith}
use Rattle.find_parts.proofs.Laws.Lines.{line_next, past_none, past_next}
use Rattle.find_parts.proofs.line.pass_lines.Goals as goal

pub loop-count-init : goal.loop-count-init
loop-count-init c = past_none c.args.w c.args.block.now

pub overflow_sub-end : goal.overflow_sub-end
overflow_sub-end c =
    let pre = c.requires in omega (arith, (c.loop-count.invariant pre.value pre.left pre.reads).1.within)

pub line_end-next-requires : goal.line_end-next-requires
line_end-next-requires c =
    let pre = c.requires in
    let next = line_next (c.loop-count.invariant pre.value pre.left pre.reads).1 c.if-end-next-lt8.false in
    record { narrow = pre.narrow; short = pre.short; value = next.value; behind = next.behind; reads = next.reads }

pub loop-count-preserved : goal.loop-count-preserved
loop-count-preserved c = past_next c.loop-count.invariant c.if-end-next-lt8.false c.line_end-next.ensures

pub returns : goal.returns
returns c =
    let e : c.args.most ≡ c.loop-count.count = omega arith in
    rw e (record { upto = omega arith; all = λ k. absurd (omega arith); is = c.loop-count.invariant })
