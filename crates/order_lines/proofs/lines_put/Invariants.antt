-- Line by line. The invariant holds of whatever lines the block has: those that stay are put so far, the others are to come.
use mathlib.Core.Path.{◌≡◌}
use Prim.Native.Nat.{◌-◌, ◌*◌, ◌≤◌}
use lib.ListN.{length}
use Rattle.order_lines.proofs.Laws.Lines.{PutAll}
use Rattle.order_lines.proofs.lines_put.Given as goal

abbrev pub invariant-loop-l : goal.invariant-loop-l
invariant-loop-l l = (length l.out ≡ length l.initial.out) × (l.q ≤ l.p) × (l.p ≤ 8 * length l.block) × PutAll l.w l.block l.removal l.count l.l l.p l.initial.out l.out l.q
