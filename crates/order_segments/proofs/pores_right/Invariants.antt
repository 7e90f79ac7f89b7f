-- Segment by segment. The invariant: all pores are right if those still to come are.
use Rattle.order_segments.specs.Walk.{Whole, segments_in}
use Rattle.pores.specs.Keep.{pores_right}
use Rattle.order_segments.proofs.Laws.Over.{OverAll}
use Rattle.order_segments.proofs.Laws.Seen.{Seen}
use Rattle.order_segments.proofs.pores_right.Given as goal

abbrev pub invariant-loop-segment : goal.invariant-loop-segment
invariant-loop-segment l = Whole l.segment-iterator.0.now × OverAll (Seen (pores_right l.lines)) l.block (segments_in l.segment-iterator.0.now)
