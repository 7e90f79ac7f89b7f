-- Four reads, then the four tests in the format's order.
use native.Mathlib.Omega.{arith}
use Prim.Native.Nat.{◌^◌}
use mathlib.Core.Path.{◌≡◌, refl}
use mathlib.Core.Bool.{◌&&◌}
use lib.Dec.{ltb}
use Rattle.bits.proofs.Laws.Reads.{up_to}
use Rattle.outcome.specs.Refusals.{bad_value}
use Rattle.check_line.proofs.Laws.{both, first_only, end_told}
use Rattle.check_line.proofs.end_right.Goals as goal
use Rattle.check_line.proofs.end_right.Goals.{then-narrow, else-narrow, then-narrow-2, else-narrow-2}

pub returns-then-narrow-3 : goal.returns-then-narrow-3
returns-then-narrow-3 c =
    let u : c.if-narrow.value ≡ (ltb c.sure-kind.result.value (2 ^ 2) && ltb c.sure-direction.result.value (2 ^ c.args.w.b)) =
    elim c.if-narrow.branch [ then-narrow w ↦ both w.if-narrow.true c.narrow.ensures w.value-is w.narrow-then-narrow.ensures | else-narrow w ↦ first_only _ w.if-narrow.false c.narrow.ensures w.value-is ] in
    let v : c.if-narrow-2.value ≡ ((ltb c.sure-kind.result.value (2 ^ 2) && ltb c.sure-direction.result.value (2 ^ c.args.w.b)) && ltb c.sure-x.result.value (2 ^ c.args.w.c)) =
    elim c.if-narrow-2.branch [ then-narrow-2 w ↦ both w.if-narrow-2.true u w.value-is w.narrow-then-narrow-2.ensures | else-narrow-2 w ↦ first_only _ w.if-narrow-2.false u w.value-is ] in
    end_told c.args.w (c.sure-kind.ensures.0 bad_value) (c.sure-direction.ensures.0 bad_value) (c.sure-x.ensures.0 bad_value)
    (up_to (omega (arith, c.sure-kind.ensures.1, c.sure-direction.ensures.1, c.sure-x.ensures.1, c.sure-y.ensures.1)) (c.sure-y.ensures.0 bad_value)) (omega arith)
    (both c.if-narrow-3.true v refl c.narrow-then-narrow-3.ensures)

pub returns-else-narrow-3 : goal.returns-else-narrow-3
returns-else-narrow-3 c =
    let u : c.if-narrow.value ≡ (ltb c.sure-kind.result.value (2 ^ 2) && ltb c.sure-direction.result.value (2 ^ c.args.w.b)) =
    elim c.if-narrow.branch [ then-narrow w ↦ both w.if-narrow.true c.narrow.ensures w.value-is w.narrow-then-narrow.ensures | else-narrow w ↦ first_only _ w.if-narrow.false c.narrow.ensures w.value-is ] in
    let v : c.if-narrow-2.value ≡ ((ltb c.sure-kind.result.value (2 ^ 2) && ltb c.sure-direction.result.value (2 ^ c.args.w.b)) && ltb c.sure-x.result.value (2 ^ c.args.w.c)) =
    elim c.if-narrow-2.branch [ then-narrow-2 w ↦ both w.if-narrow-2.true u w.value-is w.narrow-then-narrow-2.ensures | else-narrow-2 w ↦ first_only _ w.if-narrow-2.false u w.value-is ] in
    end_told c.args.w (c.sure-kind.ensures.0 bad_value) (c.sure-direction.ensures.0 bad_value) (c.sure-x.ensures.0 bad_value)
    (up_to (omega (arith, c.sure-kind.ensures.1, c.sure-direction.ensures.1, c.sure-x.ensures.1, c.sure-y.ensures.1)) (c.sure-y.ensures.0 bad_value)) (omega arith)
    (first_only _ c.if-narrow-3.false v refl)
