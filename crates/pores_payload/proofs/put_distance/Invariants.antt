-- All ones as often as they pass, then the last element. The invariant: of the distance's bits, those from here on are still to come.
use mathlib.Core.Path.{◌≡◌}
use Prim.Native.Nat.{◌-◌}
use lib.ListN.{length}
use Rattle.pores_payload.proofs.Laws.Putting.{Ones}
use Rattle.pores_payload.proofs.put_distance.Given as goal

abbrev pub invariant-loop : goal.invariant-loop
invariant-loop l = (length l.out ≡ length l.initial.out) × Ones l.e l.distance l.most (l.ones - l.counter) l.ones l.initial.out l.initial.next l.out l.next
