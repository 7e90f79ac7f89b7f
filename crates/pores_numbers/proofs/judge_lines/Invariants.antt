-- Line by line. The invariant: what the lines from here on say, with the elements so far, is what all say.
use Prim.Native.Nat.{◌-◌}
use Rattle.pores_numbers.proofs.Laws.Judging.{Lines}
use Rattle.pores_numbers.proofs.judge_lines.Given as goal

abbrev pub invariant-loop : goal.invariant-loop
invariant-loop l = Lines l.lines l.values l.e (l.lines - l.counter) l.at l.elements
