-- Line by line. The invariant: what the lines from here on say, with the elements so far, is what all say.
use native.Mathlib.Omega.{arith}
use mathlib.Core.Path.{◌≡◌}
use Prim.Native.Nat.{◌-◌}
use Rattle.pores_numbers.proofs.Laws.Judging.{lines_start, lines_broken, lines_next, lines_over, lines_done}
use Rattle.pores_numbers.proofs.judge_lines.Goals as goal

pub loop-init : goal.loop-init
loop-init c =
    let z : c.args.lines - 0 ≡ c.args.lines = omega arith in
    rw z (lines_start c.args.lines c.requires)

pub judge_line-requires : goal.judge_line-requires
judge_line-requires c =
    c.loop.invariant.there

pub returns-in_err-line : goal.returns-in_err-line
returns-in_err-line c =
    rw c.from_residual.ensures (lines_broken c.args.lines c.loop.invariant (omega (arith, c.loop-test.true)) c.in_err-line.ensures)

pub loop-preserved : goal.loop-preserved
loop-preserved c =
    lines_next c.args.lines c.loop.invariant (omega (arith, c.loop-test.true)) (omega arith) c.in_ok-line.ensures

pub returns-then-at-values : goal.returns-then-at-values
returns-then-at-values c =
    lines_over c.args.lines c.loop.invariant (omega (arith, c.loop-test.false)) c.if-at-values.true

pub returns : goal.returns
returns c =
    lines_done c.args.lines c.loop.invariant (omega (arith, c.loop-test.false)) c.if-at-values.false
