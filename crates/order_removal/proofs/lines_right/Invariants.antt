-- The list number by number. The loop's invariant: what is left of it is as right as the whole.
use Prim.Native.Nat.{◌*◌}
use Rattle.order_removal.proofs.Laws.Listed.{Testing}
use Rattle.order_removal.proofs.lines_right.Given as goal

abbrev pub invariant-loop-i : goal.invariant-loop-i
invariant-loop-i l = Testing l.count l.removal l.least (2 * l.i)
