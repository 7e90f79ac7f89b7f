-- Bits kept free, then line by line, then the count into them. The invariant holds of whatever lines the list has: the differences of
-- those that stay are put, and counted.
use mathlib.Core.Path.{◌≡◌}
use Prim.Native.Nat.{◌+◌, ◌≤◌}
use lib.ListN.{length}
use Rattle.order_lists.proofs.Laws.List.{PuttingAll}
use Rattle.order_lists.proofs.list.list_put.Given as goal

abbrev pub invariant-loop-k : goal.invariant-loop-k
invariant-loop-k l = (l.k.walk.width ≤ 16) × (l.count + (l.k.walk.left + l.k.bound) ≤ 131072) × (length l.out ≡ length l.initial.out) × PuttingAll l.block l.list l.words l.removal l.width l.k l.before l.count l.initial.out l.initial.p l.out l.p

abbrev pub decreases-loop-k : goal.decreases-loop-k
decreases-loop-k l = l.k.walk.left + l.k.bound
