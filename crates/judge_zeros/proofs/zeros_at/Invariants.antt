-- The loop's invariant: reading zero bits from the cursor on gives what it gives from the start, as the bits between were zero. The
-- measure is the bits left.
use Prim.Native.Nat.{ℕ, ◌-◌, ◌*◌, ◌≤◌}
use mathlib.Core.Path.{◌≡◌}
use lib.ListN.{length, drop}
use Rattle.bits.specs.Bytes.{bits_of}
use Rattle.bits.specs.Block.{zeros_dec}
use Rattle.judge_zeros.proofs.zeros_at.Given as goal

abbrev pub invariant-loop-q : goal.invariant-loop-q
invariant-loop-q l = (l.q.at ≤ 8 * length l.block) × ((e : ℕ) → zeros_dec e (drop l.q.at (bits_of l.block)) ≡ zeros_dec e (drop l.initial.q.at (bits_of l.block)))

abbrev pub decreases-loop-q : goal.decreases-loop-q
decreases-loop-q l = 8 * length l.block - l.q.at
