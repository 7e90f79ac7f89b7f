-- The neighbours before i are right, so the test of the rest says what the test of them all says.
use Prim.Native.Nat.{◌≤◌}
use Rattle.check_value.proofs.Laws.List.{ListFrom}
use Rattle.check_value.proofs.list.list_value.Given as goal

abbrev pub invariant-loop-i : goal.invariant-loop-i
invariant-loop-i l = ListFrom l.w l.l l.value l.least l.before l.i × (l.least ≤ 1)
