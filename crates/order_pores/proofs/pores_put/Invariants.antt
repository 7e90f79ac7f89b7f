-- Line by line. The invariant holds of whatever pores the payload says: those of the lines that stay are put so far, the others are to come.
use mathlib.Core.Path.{◌≡◌}
use Prim.Native.Nat.{◌*◌, ◌≤◌}
use lib.ListN.{length}
use Rattle.order_pores.proofs.Laws.{PutAll}
use Rattle.order_pores.proofs.pores_put.Given as goal

abbrev pub invariant-loop-line : goal.invariant-loop-line
invariant-loop-line l = (length l.out ≡ length l.initial.out) × (l.q ≤ l.p) × (l.p ≤ 8 * length l.payload) × PutAll l.payload l.lines l.removal l.e l.line l.p l.initial.out l.initial.q l.out l.q
