-- Back from the last word. The loop's invariant: what all words say, those from here back say.
use Rattle.order_words.proofs.Laws.Said.{Back}
use Rattle.order_words.proofs.word_of.Given as goal

abbrev pub invariant-loop-i : goal.invariant-loop-i
invariant-loop-i l = Back l.list l.high l.low l.i
