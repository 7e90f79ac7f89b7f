-- Segment by segment. The invariant is which segments are left, whatever segments the block has.
use Rattle.find_parts.proofs.Laws.Segments.{Past}
use Rattle.find_parts.proofs.segments.pass_segments.Given as goal

abbrev pub invariant-loop-count : goal.invariant-loop-count
invariant-loop-count l = Past l.block l.count l.next
