-- The first three values, then one by one those of the cells.
use Rattle.std.proofs.Common.{arith}
use Rattle.bits.specs.ChoiceLaws.{within_high}
use Rattle.quality_payload.proofs.Laws.Putting.{value_small, cells_room, next_fits, next_put, put_near, put_done}
use Rattle.quality_payload.proofs.put_payload.Goals as goal

pub put_bits-at-requires-in-loop-x : goal.put_bits-at-requires-in-loop-x
put_bits-at-requires-in-loop-x c =
    let R = c.requires.right in
    next_fits c.args.grid.bits _ c.loop-x.x-index c.loop-x.invariant c.loop-x-test.true c.wide-in-loop-x.ensures
    (cells_room c.requires (omega arith) (omega arith)) (value_small R c.loop-x.x-index c.loop-x-test.true) (within_high 1 8 c.args.grid.bits R.start.narrow)

pub loop-x-preserved : goal.loop-x-preserved
loop-x-preserved c =
    next_put c.args.grid.bits _ c.loop-x.x-index c.loop-x.invariant c.loop-x-test.true c.wide-in-loop-x.ensures c.put_bits-at-in-loop-x.ensures

pub overflow_add-result : goal.overflow_add-result
overflow_add-result c =
    omega (arith, put_near c.args.grid.bits _ c.loop-x.x-index c.loop-x.invariant (cells_room c.requires (omega arith) (omega arith)))

pub returns : goal.returns
returns c =
    put_done c.put_bits-at.ensures c.wide.ensures c.put_bits-at-2.ensures c.wide-2.ensures c.put_bits-at-3.ensures c.wide-3.ensures c.loop-x.invariant c.loop-x-test.false
