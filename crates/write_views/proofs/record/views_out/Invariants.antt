-- View by view. The invariant holds of whatever views the fields are: those passed are laid.
use Prim.Native.Nat.{◌-◌}
use lib.ListN.{length}
use Rattle.write_views.proofs.Laws.Record.{ViewsSoFar}
use Rattle.write_views.proofs.record.views_out.Given as goal

abbrev pub invariant-loop-p : goal.invariant-loop-p
invariant-loop-p l = ViewsSoFar l.w l.sheet l.initial.out l.p l.out l.at

abbrev pub decreases-loop-p : goal.decreases-loop-p
decreases-loop-p l = length l.sheet - l.p
