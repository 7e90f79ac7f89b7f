-- Line by line. The invariant: the lines that are laid and those still to come are the payload's.
use Rattle.pores_values.specs.Put.{LinesRoom}
use Rattle.pores_values.proofs.Laws.Lines.{LayingLines}
use Rattle.pores_values.proofs.lines_put.Given as goal

abbrev pub invariant-loop : goal.invariant-loop
invariant-loop l = (R : LinesRoom l.lines l.payload l.e l.initial.out) → LayingLines l.lines l.payload l.e R.lines R.behind l.initial.out l.out l.counter l.place l.laid
