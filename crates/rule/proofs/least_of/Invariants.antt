-- The rows are gone over one by one; the code's table is the one of the definitions by computation.
use Rattle.rule.specs.Rules.{rules}
use Rattle.rule.proofs.Laws.Table.{Looking}
use Rattle.rule.proofs.least_of.Given as goal

abbrev pub invariant-loop-row : goal.invariant-loop-row
invariant-loop-row l = Looking rules l.number l.row-index
