-- The first three bytes, then line by line, then what is left. The invariant: what the payload says is counted, with what is to come.
use Rattle.pores_judge.proofs.Laws.Judging.{Judging}
use Rattle.pores_judge.proofs.judge_payload.Given as goal

abbrev pub invariant-loop : goal.invariant-loop
invariant-loop l = Judging l.lines l.payload l.e l.counter l.place l.numbers
