-- The loop's invariant: the lines before this byte are right and take so many bits, whatever fields stand from byte p on.
use native.Mathlib.Omega.{arith}
use Rattle.check_blocks.proofs.Laws.Told.{told_right, told_wrong}
use Rattle.check_blocks.proofs.Laws.Lines.{line_three, line_there, lines_wrong, lines_on, lines_all}
use Rattle.check_blocks.proofs.run.line_values.Goals as goal

pub two_at-size-requires : goal.two_at-size-requires
two_at-size-requires c = omega (arith, line_three c.loop-w.invariant c.requires.0 c.starts.ensures c.loop-w-test.true)

pub slice_bounds-value-end : goal.slice_bounds-value-end
slice_bounds-value-end c =
    let N = line_there c.loop-w.invariant c.requires.0 c.starts.ensures c.loop-w-test.true c.two_at-size.ensures in
    omega (arith, N.held.there)

pub line_value-requires : goal.line_value-requires
line_value-requires c =
    let N = line_there c.loop-w.invariant c.requires.0 c.starts.ensures c.loop-w-test.true c.two_at-size.ensures in
    let n = c.requires.1 in
    (omega (arith, N.least, N.held.long), omega (arith, N.most, N.held.long), n.c, n.b, n.low, n.k)

pub returns-then-not-line_value : goal.returns-then-not-line_value
returns-then-not-line_value c =
    let N = line_there c.loop-w.invariant c.requires.0 c.starts.ensures c.loop-w-test.true c.two_at-size.ensures in
    lines_wrong c.loop-w.invariant N (told_wrong _ _ _ c.if-not-line_value.true c.line_value.ensures)

pub overflow_sub-bits : goal.overflow_sub-bits
overflow_sub-bits c = (line_there c.loop-w.invariant c.requires.0 c.starts.ensures c.loop-w-test.true c.two_at-size.ensures).least

pub loop-w-preserved : goal.loop-w-preserved
loop-w-preserved c =
    let N = line_there c.loop-w.invariant c.requires.0 c.starts.ensures c.loop-w-test.true c.two_at-size.ensures in
    lines_on c.loop-w.invariant N c.requires.1 (told_right _ _ _ c.if-not-line_value.false c.line_value.ensures)

pub returns : goal.returns
returns c = lines_all c.loop-w.invariant c.requires.0 c.starts.ensures c.loop-w-test.false
