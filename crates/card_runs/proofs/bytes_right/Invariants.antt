-- The bytes one by one. The loop's invariant: the numbers that are left are as small as all.
use Rattle.card_runs.proofs.Laws.Back.{Judging}
use Rattle.card_runs.proofs.bytes_right.Given as goal

abbrev pub invariant-loop-byte : goal.invariant-loop-byte
invariant-loop-byte l = Judging l.bytes l.added l.before l.byte-index
