-- Line by line. The invariant holds of whatever lines the block has: those that stay are counted so far, the others are to come.
use Prim.Native.Nat.{◌-◌, ◌*◌, ◌≤◌}
use lib.ListN.{length}
use Rattle.order_lines.proofs.Laws.Lines.{SizingAll}
use Rattle.order_lines.proofs.lines_size.Given as goal

abbrev pub invariant-loop-l : goal.invariant-loop-l
invariant-loop-l l = (l.bits ≤ l.p) × (l.p ≤ 8 * length l.block) × SizingAll l.w l.block l.removal l.count l.l l.p l.bits
