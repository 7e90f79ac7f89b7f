-- `blocks::block::block_at` meets its contract: the length is read where it is there, and the block behind it is as long as it says.
use native.Mathlib.Omega.{arith}
use Prim.Native.Nat.{◌-◌, ◌+◌, ◌*◌}
use mathlib.Core.Path.{◌≡◌, refl, ap}
use Rattle.bits.specs.Reads.{found}
use Rattle.bits.proofs.Laws.Reads.{known, up_to}
use Rattle.outcome.specs.Refusals.{past}
use Rattle.judge_blocks.specs.Answers.{block_past}
use Rattle.judge_blocks.proofs.block.block_at.Goals as goal

pub returns-then-bytes-b : goal.returns-then-bytes-b
returns-then-bytes-b c =
    let e : c.sure-len.result.next.at ≡ 8 * (c.args.a + 2) = omega (arith, c.sure-len.ensures.1) in
    rw c.at-then-bytes-b.ensures (refl, block_past _ (up_to e (c.sure-len.ensures.0 past)) c.if-bytes-b.true refl)

pub returns : goal.returns
returns c =
    let b = c.args.a + 2 in
    let n = c.sure-len.result.value in
    let e : n ≡ b + n - b = omega arith in
    let f : c.sure-len.result.next.at ≡ 8 * b = omega (arith, c.sure-len.ensures.1) in
    record { start = refl; counted = known (ap (λ k. found k (8 * b)) e) (up_to f (c.sure-len.ensures.0 past)); ordered = omega arith; within = omega (arith, c.if-bytes-b.false) }
