-- The resolution and e, then line by line. The invariant: of the lines' bits, those from here on are still to come.
use mathlib.Core.Path.{◌≡◌}
use Prim.Native.Nat.{◌-◌}
use lib.ListN.{length}
use Rattle.pores_payload.proofs.Laws.Payload.{Lines}
use Rattle.pores_payload.proofs.put_payload.Given as goal

abbrev pub invariant-loop : goal.invariant-loop
invariant-loop l = (length l.out ≡ length l.initial.out) × Lines l.lines l.values l.e l.initial.out l.initial.reached.bit (l.lines - l.counter) l.out l.reached
