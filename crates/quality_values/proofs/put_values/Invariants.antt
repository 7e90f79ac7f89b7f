-- The first three bytes are copied, and cell by cell a number is read. The invariant: the cells' values up to here are laid.
use mathlib.Core.Path.{◌≡◌}
use Prim.Native.Nat.{◌+◌, ◌*◌}
use Rattle.quality_values.proofs.Laws.Laying.{Laying}
use Rattle.quality_values.proofs.put_values.Given as goal

abbrev pub invariant-loop-i : goal.invariant-loop-i
invariant-loop-i l = record { place : l.place.at ≡ 24 + l.i * l.grid.bits; laying : Laying l.payload l.grid l.i l.initial.out l.out }
