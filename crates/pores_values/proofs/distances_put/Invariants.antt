-- Element by element. The invariant: the distances that are laid and those still to come are the line's.
use Prim.Native.Nat.{◌-◌, ◌*◌}
use lib.ListN.{length}
use Rattle.pores_values.specs.Put.{LineRoom}
use Rattle.pores_values.proofs.Laws.Distances.{Laying}
use Rattle.pores_values.proofs.distances_put.Given as goal

abbrev pub invariant-loop-p : goal.invariant-loop-p
invariant-loop-p l = (R : LineRoom 0 l.payload l.at l.e l.initial.out) → Laying l.payload l.at l.e R.distances R.behind l.initial.out l.out l.p l.laid l.passed

abbrev pub decreases-loop-p : goal.decreases-loop-p
decreases-loop-p l = 8 * length l.payload - l.p
