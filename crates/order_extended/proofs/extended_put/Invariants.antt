-- Segment by segment. The invariant: those before are laid, the others are still to come.
use Rattle.order_segments.specs.Walk.{Whole, segments_in}
use Rattle.order_segments.proofs.Laws.Over.{OverAll}
use Rattle.order_extended.proofs.Laws.Extended.{Putting}
use Rattle.order_extended.proofs.extended_put.Given as goal

abbrev pub invariant-loop-segment : goal.invariant-loop-segment
invariant-loop-segment l = Whole l.segment-iterator.0.now × OverAll (Putting l.lines l.removal l.initial.out l.out l.at) l.block (segments_in l.segment-iterator.0.now)
