-- The loop's invariant: the lines from the cursor on, with the n before them, are what the block's lines are; z, their bytes in the
-- sheet, is what the laws carry along and the code does not count. The measure is the lines that may still come.
use Prim.Native.Nat.{ℕ, ◌-◌}
use Rattle.judge_views.proofs.Laws.Line.{Lines}
use Rattle.card_lines.proofs.judge_lines.Given as goal

abbrev pub invariant-loop-p : goal.invariant-loop-p
invariant-loop-p l = (z : ℕ) × Lines l.w l.block l.n z l.p.at

abbrev pub decreases-loop-p : goal.decreases-loop-p
decreases-loop-p l = 1024 - l.n
