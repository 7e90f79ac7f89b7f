-- Element by element. The invariant: the line's distances are those counted and those still to come.
use Prim.Native.Nat.{◌-◌, ◌*◌}
use lib.ListN.{length}
use Rattle.pores_lines.proofs.Laws.{Going}
use Rattle.pores_lines.proofs.line_at.Given as goal

abbrev pub invariant-loop-p : goal.invariant-loop-p
invariant-loop-p l = Going (l.payload) l.at l.e l.p l.count l.underway

abbrev pub decreases-loop-p : goal.decreases-loop-p
decreases-loop-p l = 8 * length l.payload - l.p
