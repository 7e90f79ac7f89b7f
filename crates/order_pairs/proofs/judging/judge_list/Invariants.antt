-- The orders before the one at this place are accepted.
use Rattle.order_pairs.proofs.Laws.Trying.{Trying}
use Rattle.order_pairs.proofs.judging.judge_list.Given as goal

abbrev pub invariant-loop-place : goal.invariant-loop-place
invariant-loop-place l = Trying l.bytes l.site l.list l.lent l.place
