-- The zero element, then distance by distance. The invariant: of the distances' bits, those from here on are still to come.
use mathlib.Core.Path.{◌≡◌}
use Prim.Native.Nat.{◌-◌}
use lib.ListN.{length}
use Rattle.pores_payload.proofs.Laws.Putting.{Distances}
use Rattle.pores_payload.proofs.put_line.Given as goal

abbrev pub invariant-loop : goal.invariant-loop
invariant-loop l = (length l.out ≡ length l.initial.out) × Distances l.values l.e l.count l.initial.byte l.initial.out l.initial.bit (l.count - l.counter) l.byte l.out l.bit
