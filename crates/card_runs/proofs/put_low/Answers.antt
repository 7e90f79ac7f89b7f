-- One low byte after the other; the invariant is what is laid so far.
use Prim.Native.Nat.{◌*◌, ◌+◌}
use Rattle.card_runs.proofs.Laws.Low.{lowering_start, lowering_next, lowering_done}
use Rattle.card_runs.proofs.put_low.Goals as goal

pub loop-i-init : goal.loop-i-init
loop-i-init c = lowering_start c.args.run.now c.args.out.now

pub loop-i-preserved : goal.loop-i-preserved
loop-i-preserved c =
    let l = c.loop-i in
    lowering_next l.invariant c.loop-i-test.true c.requires (c.type_inv.run (2 * l.i + 1)).fits

pub returns : goal.returns
returns c = lowering_done c.loop-i.invariant c.loop-i-test.false
