-- The count, and then distance by distance. The invariant: what those from here on say, with the elements so far, is what all say.
use Prim.Native.Nat.{◌-◌}
use Rattle.pores_numbers.proofs.Laws.Judging.{Distances}
use Rattle.pores_numbers.proofs.judge_line.Given as goal

abbrev pub invariant-loop : goal.invariant-loop
invariant-loop l = Distances l.values l.e l.count l.initial.next l.initial.total (l.count - l.counter) l.next l.total
