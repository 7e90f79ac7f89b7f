-- Word by word. The loop's invariant: none of those passed is about the line and one from the bound on.
use Rattle.order_words.proofs.Laws.Bound.{Bounding}
use Rattle.order_words.proofs.low_bound.Given as goal

abbrev pub invariant-loop-i : goal.invariant-loop-i
invariant-loop-i l = Bounding l.list l.high l.before l.i l.bound
