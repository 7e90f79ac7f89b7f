-- Number by number. The invariant holds of whatever list the bytes are: the differences of those passed are put.
use Rattle.write_blocks.proofs.Laws.Index.{ListSoFar}
use Rattle.write_blocks.proofs.index.list_put.Given as goal

abbrev pub invariant-loop-i : goal.invariant-loop-i
invariant-loop-i l = ListSoFar l.w l.l l.value l.initial.out l.initial.p l.out l.p l.before l.i
