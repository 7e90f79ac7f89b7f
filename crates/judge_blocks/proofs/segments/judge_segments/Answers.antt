-- What stops a read or a test is a fault of its segment, and so of the block; a turn of the loop keeps what it reads.
use native.Mathlib.Omega.{arith}
use Prim.Native.Nat.{◌+◌}
use mathlib.Core.Path.{◌≡◌}
use Rattle.bits.proofs.Laws.Reads.{below}
use Rattle.outcome.specs.Refusals.{bad_segment}
use Rattle.judge_blocks.proofs.Laws.Segments.{fill_start, fill_short, fill_low, fill_cut, fill_next, fill_end}
use Rattle.judge_blocks.proofs.segments.judge_segments.Goals as goal

pub loop-p-init : goal.loop-p-init
loop-p-init c = fill_start _ _ c.start-p.ensures

pub returns-then-end-p-lt32 : goal.returns-then-end-p-lt32
returns-then-end-p-lt32 c = fill_short c.loop-p.invariant c.loop-p-test.true (omega arith)

pub returns-then-len-lt4 : goal.returns-then-len-lt4
returns-then-len-lt4 c =
    fill_low c.loop-p.invariant c.loop-p-test.true (omega arith) (c.sure-kind.ensures.0 bad_segment) (c.sure-len.ensures.0 bad_segment) (omega arith)

pub overflow_mul-payload : goal.overflow_mul-payload
overflow_mul-payload c = omega (arith, below bad_segment 16 (c.sure-len.ensures.0 bad_segment))

pub returns-then-end-len : goal.returns-then-end-len
returns-then-end-len c =
    fill_cut c.loop-p.invariant c.loop-p-test.true (omega arith) (c.sure-kind.ensures.0 bad_segment) (c.sure-len.ensures.0 bad_segment) (omega arith) c.if-end-len.true

pub loop-p-preserved : goal.loop-p-preserved
loop-p-preserved c =
    let e : c.sure-len.result.next.at ≡ c.loop-p.p.at + 32 = omega (arith, c.sure-len.ensures.1, c.sure-kind.ensures.1) in
    fill_next c.loop-p.invariant c.loop-p-test.true (omega arith) (c.sure-kind.ensures.0 bad_segment) (c.sure-len.ensures.0 bad_segment) e (omega arith) c.if-end-len.false

pub returns : goal.returns
returns c = fill_end c.loop-p.invariant c.loop-p-test.false
