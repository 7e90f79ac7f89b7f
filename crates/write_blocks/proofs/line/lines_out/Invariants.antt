-- Line by line. The invariant holds of whatever lines the fields are: those passed are put.
use Prim.Native.Nat.{◌-◌}
use lib.ListN.{length}
use Rattle.write_blocks.proofs.Laws.Line.{LinesGoing}
use Rattle.write_blocks.proofs.line.lines_out.Given as goal

abbrev pub invariant-loop-next : goal.invariant-loop-next
invariant-loop-next l = LinesGoing l.w l.sheet l.a l.initial.out l.next l.out l.at l.count

abbrev pub decreases-loop-next : goal.decreases-loop-next
decreases-loop-next l = length l.sheet - l.next
