-- `values::values` meets its contract: the header, then view by view. The loop's invariant: the views before this byte are right and
-- take so many bytes, whatever views stand behind the 01. The measure is the bytes left.
use Prim.Native.Nat.{◌-◌}
use lib.ListN.{length}
use Rattle.check_values.proofs.Laws.Views.{ViewsGoing}
use Rattle.check_values.proofs.values.Given as goal

abbrev pub invariant-loop-p : goal.invariant-loop-p
invariant-loop-p l = ViewsGoing l.w l.sheet l.seen l.p l.views l.bytes

abbrev pub decreases-loop-p : goal.decreases-loop-p
decreases-loop-p l = length l.sheet - l.p
