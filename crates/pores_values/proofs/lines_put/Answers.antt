-- Line by line. The invariant: the lines that are laid and those still to come are the payload's.
use native.Mathlib.Omega.{arith}
use Rattle.pores_values.proofs.Laws.Lines.{lines_start, lines_laid, laid_within, line_there, line_fits, lines_next}
use Rattle.pores_values.proofs.lines_put.Goals as goal

pub loop-init : goal.loop-init
loop-init c =
    λ R. lines_start R

pub slice_bounds-line_put-count : goal.slice_bounds-line_put-count
slice_bounds-line_put-count c =
    omega (arith, laid_within c.requires (c.loop.invariant c.requires) c.loop-test.true)

pub slice_bounds-line_put-start : goal.slice_bounds-line_put-start
slice_bounds-line_put-start c =
    omega (arith, laid_within c.requires (c.loop.invariant c.requires) c.loop-test.true)

pub slice_bounds-line_put-end : goal.slice_bounds-line_put-end
slice_bounds-line_put-end c =
    omega (arith, laid_within c.requires (c.loop.invariant c.requires) c.loop-test.true)

pub line_put-line-requires : goal.line_put-line-requires
line_put-line-requires c =
    line_there c.requires (c.loop.invariant c.requires) c.loop-test.true

pub overflow_add-laid : goal.overflow_add-laid
overflow_add-laid c =
    omega (arith, line_fits c.requires (c.loop.invariant c.requires) c.loop-test.true c.line_put-line.ensures, (c.loop.invariant c.requires).same, c.slice_known-1.given 0)

pub loop-preserved : goal.loop-preserved
loop-preserved c =
    λ R. lines_next R (c.loop.invariant R) c.loop-test.true c.line_put-line.ensures

pub shape_of-out : goal.shape_of-out
shape_of-out c =
    (c.loop.invariant c.requires).same

pub returns : goal.returns
returns c =
    lines_laid c.requires (c.loop.invariant c.requires) c.loop-test.false
