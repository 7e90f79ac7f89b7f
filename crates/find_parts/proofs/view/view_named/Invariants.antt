-- From header to header. The invariant is that the views before have other names, whatever record the bytes are; the measure is how
-- many bytes are left.
use mathlib.Core.Path.{◌≡◌}
use Prim.Native.Nat.{◌-◌}
use mathlib.Core.List.{[]}
use lib.ListN.{length}
use Rattle.bits.specs.Codec.{got}
use Rattle.format.specs.Record.{Record, read}
use Rattle.find_parts.proofs.Laws.Named.{Seeking}
use Rattle.find_parts.proofs.view.view_named.Given as goal

abbrev pub invariant-loop-a : goal.invariant-loop-a
invariant-loop-a l = (r : Record) → read l.bytes ≡ got r [] → Seeking l.view l.bytes l.a r

abbrev pub decreases-loop-a : goal.decreases-loop-a
decreases-loop-a l = length l.bytes - l.a
