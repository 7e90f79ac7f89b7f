-- Line by line. The invariant holds of whatever lines the list has: those that stay are counted so far, the others are to come.
use Prim.Native.Nat.{◌+◌, ◌≤◌}
use Rattle.order_lists.proofs.Laws.List.{MeasuringAll}
use Rattle.order_lists.proofs.list.list_numbers.Given as goal

abbrev pub invariant-loop-k : goal.invariant-loop-k
invariant-loop-k l = (l.k.walk.width ≤ 16) × (l.count + (l.k.walk.left + l.k.bound) ≤ 131072) × MeasuringAll l.block l.list l.words l.removal l.k l.before l.count l.most

abbrev pub decreases-loop-k : goal.decreases-loop-k
decreases-loop-k l = l.k.walk.left + l.k.bound
