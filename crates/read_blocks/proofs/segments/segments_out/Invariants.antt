-- Segment by segment; the invariant is what is laid and what is still read.
use mathlib.Core.Path.{◌≡◌}
use Prim.Native.Nat.{ℕ, ◌-◌, ◌*◌, ◌≤◌}
use lib.ListN.{length, drop}
use Rattle.bits.specs.Bytes.{bits_of}
use Rattle.bits.specs.Block.{fill_dec}
use Rattle.outcome.specs.Refusals.{bad_segment}
use Rattle.format.specs.Segments.{segment, segments}
use Rattle.format.specs.SheetSize.{segment_size}
use Rattle.sheet_bytes.specs.Bytes.{segment_bytes}
use Rattle.read_blocks.proofs.Laws.Underway.{Underway}
use Rattle.read_blocks.proofs.segments.segments_out.Given as goal

abbrev pub invariant-loop-a : goal.invariant-loop-a
invariant-loop-a l = (l.a ≤ length l.block)
    × (length l.out ≡ length l.initial.out)
    × ((k : ℕ) × Underway segment_bytes segment_size (segments.dec (bits_of l.block)) (fill_dec segment bad_segment k (drop (8 * l.a) (bits_of l.block))) l.initial.out l.out l.at)

abbrev pub decreases-loop-a : goal.decreases-loop-a
decreases-loop-a l = length l.block - l.a
