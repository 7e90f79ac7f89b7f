-- The loop's invariant: the answer from here on is the whole answer.
use Prim.Native.Nat.{ℕ, ◌-◌, ◌≤◌}
use lib.ListN.{length}
use Rattle.card_shape.proofs.Laws.Others.{Passed}
use Rattle.card_shape.proofs.others_right.Given as goal

abbrev pub invariant-loop-a : goal.invariant-loop-a
invariant-loop-a l = (l.a ≤ length l.bytes) × ((n : ℕ) × ((n ≤ l.a) × Passed l.bytes n l.a))

abbrev pub decreases-loop-a : goal.decreases-loop-a
decreases-loop-a l = length l.bytes - l.a
