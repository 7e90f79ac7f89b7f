-- List by list. The invariant holds of whatever lists the fields are: those passed are put.
use Rattle.write_blocks.proofs.Laws.Lists.{ListsSoFar}
use Rattle.write_blocks.proofs.index.lists_put.Given as goal

abbrev pub invariant-loop-l : goal.invariant-loop-l
invariant-loop-l l = ListsSoFar l.w l.lines l.sheet l.a l.initial.out l.initial.p l.next l.out l.p l.l
