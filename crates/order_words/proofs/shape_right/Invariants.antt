-- The list word by word. The loop's invariant: what is left of it is as right as the whole.
use Prim.Native.Nat.{◌*◌}
use Rattle.order_words.proofs.Laws.Shape.{Shaping}
use Rattle.order_words.proofs.shape_right.Given as goal

abbrev pub invariant-loop-i : goal.invariant-loop-i
invariant-loop-i l = Shaping l.list (6 * l.i)
