-- The first three values, then one by one those of the cells. The invariant: of the cells' bits, those from here on are still to come.
use Rattle.quality_payload.proofs.Laws.Putting.{ToPut}
use Rattle.quality_payload.proofs.put_payload.Given as goal

abbrev pub invariant-loop-x : goal.invariant-loop-x
invariant-loop-x l = ToPut l.grid.bits l.x-items l.x-index l.initial.out l.initial.at l.out l.at
