-- Width by width, up to 16. The invariant: no width before this one holds the number.
use Rattle.order_lists.proofs.Laws.Width.{Looking}
use Rattle.order_lists.proofs.width.least_width.Given as goal

abbrev pub invariant-loop-w : goal.invariant-loop-w
invariant-loop-w l = Looking l.most l.w
