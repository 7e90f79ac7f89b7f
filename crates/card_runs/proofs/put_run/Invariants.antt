-- The bytes one by one, and the numbers one behind the other. Each number goes to the rest of the buffer, lent on.
use Rattle.card_runs.proofs.Laws.Back.{Putting}
use Rattle.card_runs.proofs.put_run.Given as goal

abbrev pub invariant-loop-byte : goal.invariant-loop-byte
invariant-loop-byte l = Putting l.bytes l.initial.out l.out l.added l.before l.at l.byte-index
