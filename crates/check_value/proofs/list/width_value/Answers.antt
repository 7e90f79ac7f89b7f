-- One byte with a range, which is the whole field.
use native.Mathlib.Omega.{arith}
use Rattle.bits.specs.BitsLaws.{length_bits}
use Rattle.bits.specs.CodecLaws.{ranged}
use Rattle.bits.specs.Reads.{Reads, taken}
use Rattle.bits.proofs.Laws.Reads.{at_place}
use Rattle.outcome.specs.Refusals.{bad_value}
use Rattle.judge_heads.proofs.Laws.Header.{behind}
use Rattle.sheet.specs.Values.{width_value}
use Rattle.check_value.proofs.Laws.Ended.{ends, fails, of_some, of_none}
use Rattle.check_value.proofs.list.width_value.Goals as goal

pub returns-in_err-width : goal.returns-in_err-width
unfolding width_value
returns-in_err-width c =
    let z = of_none (λ r. Reads (ranged bad_value 8 1 16).dec c.args.value.now c.start.result.at (taken bad_value r)) c.ranged_at.result c.in_err-width.ensures.value (c.ranged_at.ensures bad_value) in
    rw c.from_residual.ensures (record { left = _; refuses = fails _ (at_place c.start.ensures z.1) })

pub returns : goal.returns
unfolding width_value
returns c =
    let z = of_some (λ r. Reads (ranged bad_value 8 1 16).dec c.args.value.now c.start.result.at (taken bad_value r)) c.ranged_at.result c.in_ok-width.ensures.value (c.ranged_at.ensures bad_value) in
    let y = at_place c.start.ensures z in
    ends _ y (omega (arith, behind (ranged bad_value 8 1 16) 8 (length_bits 8) (omega arith) y, c.requires))
