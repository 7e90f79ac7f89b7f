-- One low byte after the other; the invariant is what is laid so far.
use Rattle.card_runs.proofs.Laws.Low.{Lowering}
use Rattle.card_runs.proofs.put_low.Given as goal

abbrev pub invariant-loop-i : goal.invariant-loop-i
invariant-loop-i l = Lowering l.run l.initial.out l.out l.i
