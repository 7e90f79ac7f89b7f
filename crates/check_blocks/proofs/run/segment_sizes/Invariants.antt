-- `values::run::segment_sizes` meets its contract. The loop's invariant: what the segments before this byte take, whatever fields
-- stand from byte p on. The measure is the bytes left.
use Prim.Native.Nat.{◌+◌, ◌-◌, ◌≤◌}
use mathlib.Core.List.{List}
use lib.ListN.{length}
use Rattle.sheet.specs.Fields.{Field}
use Rattle.check_blocks.specs.Run.{Segments}
use Rattle.check_blocks.proofs.Laws.Segments.{SegmentsGoing}
use Rattle.check_blocks.proofs.run.segment_sizes.Given as goal

abbrev pub invariant-loop-size : goal.invariant-loop-size
invariant-loop-size l = (l.p + l.bytes ≤ l.next) × ((fs : List Field) → Segments l.sheet l.p fs → SegmentsGoing l.sheet fs l.next l.bytes)

abbrev pub decreases-loop-size : goal.decreases-loop-size
decreases-loop-size l = length l.sheet - l.next
