-- The loop's invariant: what the segments before this byte take, whatever fields stand from byte p on.
use native.Mathlib.Omega.{arith}
use Rattle.check_blocks.proofs.Laws.Segments.{segment_three, segments_on, segments_all}
use Rattle.check_blocks.proofs.run.segment_sizes.Goals as goal

pub two_at-size-requires : goal.two_at-size-requires
two_at-size-requires c = omega (arith, segment_three (c.loop-size.invariant.1 c.requires.value c.requires.holds) c.starts.ensures c.loop-size-test.true)

pub loop-size-preserved : goal.loop-size-preserved
loop-size-preserved c =
    (omega (arith, c.loop-size.invariant.0), λ fs h. segments_on (c.loop-size.invariant.1 fs h) c.starts.ensures c.loop-size-test.true c.two_at-size.ensures)

pub returns : goal.returns
returns c =
    record { small = c.loop-size.invariant.0; is = λ fs h. segments_all (c.loop-size.invariant.1 fs h) c.starts.ensures c.loop-size-test.false }
