-- `values::run::list_values` meets its contract. The loop's invariant: the lists before this byte are right and take so many bits,
-- whatever fields stand from byte p on. The measure is the bytes left.
use Prim.Native.Nat.{◌-◌}
use lib.ListN.{length}
use Rattle.check_blocks.proofs.Laws.Lists.{ListsGoing}
use Rattle.check_blocks.proofs.run.list_values.Given as goal

abbrev pub invariant-loop-size : goal.invariant-loop-size
invariant-loop-size l = ListsGoing l.w l.sheet l.p l.next l.l l.bits

abbrev pub decreases-loop-size : goal.decreases-loop-size
decreases-loop-size l = length l.sheet - l.next
