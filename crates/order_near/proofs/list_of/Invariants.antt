-- List by list, up to the line's own.
use Rattle.order_near.proofs.Laws.{PassingAll}
use Rattle.order_near.proofs.list_of.Given as goal

abbrev pub invariant-loop-l : goal.invariant-loop-l
invariant-loop-l l = PassingAll l.w l.block l.line l.l l.p
