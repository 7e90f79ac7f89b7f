-- Segment by segment. The invariant holds of whatever segments the fields are: those passed are laid.
use Prim.Native.Nat.{◌-◌}
use lib.ListN.{length}
use Rattle.write_blocks.proofs.Laws.Segments.{SegmentsGoing}
use Rattle.write_blocks.proofs.segments.segments_out.Given as goal

abbrev pub invariant-loop-p : goal.invariant-loop-p
invariant-loop-p l = SegmentsGoing l.sheet l.a l.initial.out l.p l.out l.at

abbrev pub decreases-loop-p : goal.decreases-loop-p
decreases-loop-p l = length l.sheet - l.p
