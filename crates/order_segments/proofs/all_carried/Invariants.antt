-- Segment by segment. The invariant: all are of the two types if those still to come are.
use Rattle.order_segments.specs.Walk.{Whole, segments_in}
use Rattle.orders.specs.Order.{carried}
use Rattle.order_segments.proofs.Laws.Over.{OverAll}
use Rattle.order_segments.proofs.Laws.Seen.{Seen}
use Rattle.order_segments.proofs.all_carried.Given as goal

abbrev pub invariant-loop-segment : goal.invariant-loop-segment
invariant-loop-segment l = Whole l.segment-iterator.0.now × OverAll (Seen carried) l.block (segments_in l.segment-iterator.0.now)
