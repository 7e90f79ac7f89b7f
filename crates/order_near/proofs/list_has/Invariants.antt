-- Line by line. The invariant: the line is in the list if it is in what is still to come.
use Prim.Native.Nat.{◌≤◌}
use Rattle.order_near.proofs.Laws.{LookingAll}
use Rattle.order_near.proofs.list_has.Given as goal

abbrev pub invariant-loop-k : goal.invariant-loop-k
invariant-loop-k l = (l.k.width ≤ 16) × LookingAll l.block l.low l.initial.k l.k

abbrev pub decreases-loop-k : goal.decreases-loop-k
decreases-loop-k l = l.k.left
