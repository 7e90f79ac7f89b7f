-- View by view. The invariant is which views are left, whatever fields stand behind the 01; the measure is the bytes that are left.
use Prim.Native.Nat.{◌-◌, ◌≤◌}
use mathlib.Core.List.{List}
use lib.ListN.{length}
use Rattle.sheet.specs.Fields.{Field}
use Rattle.check_fields.specs.Fields.{FieldsAt}
use Rattle.check_shape.proofs.Laws.Sheet.{Going}
use Rattle.check_shape.proofs.shape.Given as goal

abbrev pub invariant-loop-p : goal.invariant-loop-p
invariant-loop-p l = (l.views ≤ l.p) × ((fs : List Field) → FieldsAt l.sheet 12 fs → Going l.sheet fs l.views l.p)

abbrev pub decreases-loop-p : goal.decreases-loop-p
decreases-loop-p l = length l.sheet - l.p
