-- `values::run::line_values` meets its contract. The loop's invariant: the lines before this byte are right and take so many bits,
-- whatever fields stand from byte p on. The measure is the bytes left.
use Prim.Native.Nat.{◌-◌}
use lib.ListN.{length}
use Rattle.check_blocks.proofs.Laws.Lines.{LinesGoing}
use Rattle.check_blocks.proofs.run.line_values.Given as goal

abbrev pub invariant-loop-w : goal.invariant-loop-w
invariant-loop-w l = LinesGoing l.w l.sheet l.p l.next l.bits

abbrev pub decreases-loop-w : goal.decreases-loop-w
decreases-loop-w l = length l.sheet - l.next
