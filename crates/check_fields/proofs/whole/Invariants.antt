-- Field by field. The invariant is which fields are passed, and that the answer from here is the whole answer; the measure is the
-- bytes that are left.
use Prim.Native.Nat.{◌-◌}
use lib.ListN.{length}
use Rattle.check_fields.proofs.Laws.{Going}
use Rattle.check_fields.proofs.whole.Given as goal

abbrev pub invariant-loop-p : goal.invariant-loop-p
invariant-loop-p l = Going l.sheet l.p

abbrev pub decreases-loop-p : goal.decreases-loop-p
decreases-loop-p l = length l.sheet - l.p
