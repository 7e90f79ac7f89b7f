-- One line after the other. The invariant holds the lines that are laid and those still to be read; the measure is the bits that
-- are left.
use mathlib.Core.Path.{◌≡◌}
use Prim.Native.Nat.{◌-◌}
use lib.ListN.{length}
use Rattle.read_blocks.proofs.Laws.Lines.{LinesDone}
use Rattle.read_blocks.proofs.line.lines_out.Given as goal

abbrev pub invariant-loop-p : goal.invariant-loop-p
invariant-loop-p l = (length l.out ≡ length l.initial.out) × LinesDone l.w l.block l.initial.out l.out l.p.at l.n l.at

abbrev pub decreases-loop-p : goal.decreases-loop-p
decreases-loop-p l = l.end - l.p.at
