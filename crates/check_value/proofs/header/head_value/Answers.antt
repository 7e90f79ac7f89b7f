-- A view header's fields, up to the field's end.
use native.Mathlib.Omega.{arith}
use Rattle.bits.specs.Reads.{Reads}
use Rattle.bits.proofs.Laws.Reads.{at_place}
use Rattle.outcome.specs.Refusals.{bad_value}
use Rattle.format.specs.View.{head_fields}
use Rattle.judge_heads.specs.Answers.{earlier_of, fields_at}
use Rattle.judge_heads.proofs.Laws.View.{fields_behind}
use Rattle.sheet.specs.Values.{view_head_value}
use Rattle.check_value.proofs.Laws.Ended.{ends, fails, of_some, of_none}
use Rattle.check_value.proofs.header.head_value.Goals as goal

pub returns-in_err-head : goal.returns-in_err-head
unfolding view_head_value
returns-in_err-head c =
    let z = of_none (λ r. Reads (head_fields bad_value (earlier_of c.args.seen.now)).dec c.args.value.now c.start.result.at (fields_at bad_value r)) c.head_fields.result c.in_err-head.ensures.value (c.head_fields.ensures bad_value) in
    rw c.from_residual.ensures (record { left = _; refuses = fails _ (at_place c.start.ensures z.1) })

pub returns : goal.returns
unfolding view_head_value
returns c =
    let z = of_some (λ r. Reads (head_fields bad_value (earlier_of c.args.seen.now)).dec c.args.value.now c.start.result.at (fields_at bad_value r)) c.head_fields.result c.in_ok-head.ensures.value (c.head_fields.ensures bad_value) in
    let y = at_place c.start.ensures z in
    ends _ y (omega (arith, fields_behind bad_value _ (omega arith) y, c.requires))
