-- The loop's invariant: the answer from here on, with the bytes of the segments passed added, is the whole answer; a segment takes fewer
-- bytes than the bits it has.
use Prim.Native.Nat.{◌-◌, ◌*◌}
use lib.ListN.{length}
use Rattle.judge_blocks.proofs.Laws.Segments.{Filled}
use Rattle.judge_blocks.proofs.segments.judge_segments.Given as goal

abbrev pub invariant-loop-p : goal.invariant-loop-p
invariant-loop-p l = Filled l.block l.size l.p.at

abbrev pub decreases-loop-p : goal.decreases-loop-p
decreases-loop-p l = 8 * length l.block - l.p.at
