-- Word by word. The loop's invariant: none of those passed has its higher line from `from` on and before the next one so far.
use Rattle.order_words.proofs.Laws.Bound.{Seeking}
use Rattle.order_words.proofs.next_high.Given as goal

abbrev pub invariant-loop-i : goal.invariant-loop-i
invariant-loop-i l = Seeking l.list l.from l.i l.next
