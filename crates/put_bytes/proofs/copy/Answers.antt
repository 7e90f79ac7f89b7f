-- One byte more is copied.
use native.Mathlib.Omega.{arith}
use Rattle.put_bytes.proofs.Laws.{copied_more}
use Rattle.put_bytes.proofs.copy.Goals as goal

pub loop-i-preserved : goal.loop-i-preserved
loop-i-preserved c = rw c.loop-i.invariant (copied_more c.args.out.now c.args.src.now c.loop-i.i (omega arith) (omega arith))
