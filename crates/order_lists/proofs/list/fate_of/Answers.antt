-- The lines of the removal that are before a line are at most as many as all lines before it.
use native.Mathlib.Omega.{arith}
use Rattle.orders.specs.Listed.{removal_lines}
use Rattle.order_removal.proofs.Laws.Rank.{below_le}
use Rattle.order_lists.proofs.list.fate_of.Goals as goal

pub overflow_sub-result : goal.overflow_sub-result
overflow_sub-result c =
    omega (arith, c.in-Err.ensures.below, below_le 0 (removal_lines c.args.removal.now) c.args.line c.requires.rises)
