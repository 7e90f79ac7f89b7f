-- Line by line. The invariant holds of whatever pores the payload says: those of the lines that stay are counted so far, the others are to come.
use Prim.Native.Nat.{◌*◌, ◌≤◌}
use lib.ListN.{length}
use Rattle.order_pores.proofs.Laws.{SizingAll}
use Rattle.order_pores.proofs.pores_size.Given as goal

abbrev pub invariant-loop-l : goal.invariant-loop-l
invariant-loop-l l = (l.bits ≤ l.p) × (l.p ≤ 8 * length l.payload) × SizingAll l.payload l.lines l.removal l.e l.l l.p l.bits
