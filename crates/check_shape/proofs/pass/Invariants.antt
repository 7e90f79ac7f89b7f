-- Field by field. The invariant is which fields are left, whatever fields stand from byte p on; the measure is the bytes that are
-- left.
use Prim.Native.Nat.{◌-◌, ◌≤◌}
use mathlib.Core.List.{List}
use lib.ListN.{length}
use Rattle.sheet.specs.Fields.{Field}
use Rattle.check_fields.specs.Fields.{FieldsAt}
use Rattle.check_shape.proofs.Laws.Stand.{Going}
use Rattle.check_shape.proofs.pass.Given as goal

abbrev pub invariant-loop-kind : goal.invariant-loop-kind
invariant-loop-kind l = (l.count ≤ l.next) × ((fs : List Field) → FieldsAt l.sheet l.p fs → Going l.kind l.sheet fs l.count l.next)

abbrev pub decreases-loop-kind : goal.decreases-loop-kind
decreases-loop-kind l = length l.sheet - l.next
