-- The segment, its type, the payload as it is judged, and the room.
use native.Mathlib.Omega.{arith}
use mathlib.Core.Path.{◌≡◌, subst}
use Rattle.std.specs.Prelude.{Option, Some, None}
use Rattle.std.proofs.lemmas.Result.{err_from_is_err_and}
use Rattle.outcome.specs.declared.refusal.Refusal.TheVariants.{BadPores}
use Rattle.pores_judge.specs.Judged.{RightPayload, PayloadJudged}
use Rattle.pores_judge.specs.declared.JudgedPayload.{JudgedPayload}
use Rattle.pores_reading.proofs.Laws.{not_found, payload, payload_there, other_type, broken, no_room_lem, numbers_given}
use Rattle.pores_reading.proofs.read_pores.Goals as goal
use Rattle.pores_reading.proofs.read_pores.Goals.{In_ok-judged}

right : (c : In_ok-judged) → RightPayload c.lines_of-lines.result (payload c.args.bytes.now c.in_ok-spot.spot) c.in_ok-judged.judged.e c.in_ok-judged.judged.numbers
right c =
    let z : c.judge_payload.result ≡ Some c.in_ok-judged.judged = grind (arith, c.ok_or.ensures.value, c.in_ok-judged.was) in
    subst (λ (r : Option JudgedPayload). PayloadJudged c.lines_of-lines.result (payload c.args.bytes.now c.in_ok-spot.spot) r) z (rw c.of-payload.ensures at c.judge_payload.ensures)

pub returns-in_err-spot : goal.returns-in_err-spot
returns-in_err-spot c =
    let p = err_from_is_err_and c.from_residual.result c.from_residual.ensures.1 in
    rw (p.1, p.2) (not_found c.args.out.now c.in_err-spot.ensures)

pub returns-then-spot-ne-PORES : goal.returns-then-spot-ne-PORES
returns-then-spot-ne-PORES c =
    rw c.into.ensures ((other_type c.args.out.now c.if-spot-ne-PORES.true).is c.args.view c.args.place c.in_ok-spot.ensures)

pub judge_payload-requires : goal.judge_payload-requires
judge_payload-requires c =
    rw c.of-payload.ensures (payload_there (record { view = c.args.view; place = c.args.place; stands = c.in_ok-spot.ensures }))

pub returns-in_err-judged : goal.returns-in_err-judged
returns-in_err-judged c =
    let p = err_from_is_err_and c.from_residual-in_err-judged.result c.from_residual-in_err-judged.ensures.1 in
    let z : c.judge_payload.result ≡ None = grind (arith, c.ok_or.ensures.value, c.in_err-judged.was) in
    let w : c.in_err-judged.field-0.0 ≡ BadPores = grind (arith, c.ok_or.ensures.value, c.in_err-judged.was) in
    let b = subst (λ (r : Option JudgedPayload). PayloadJudged c.lines_of-lines.result (payload c.args.bytes.now c.in_ok-spot.spot) r) z (rw c.of-payload.ensures at c.judge_payload.ensures) in
    rw (p.1, p.2, w) ((broken c.args.out.now c.if-spot-ne-PORES.false c.lines_of-lines.ensures b).is c.args.view c.args.place c.in_ok-spot.ensures)

pub returns-then-out-judged : goal.returns-then-out-judged
returns-then-out-judged c =
    rw c.into-then-out-judged.ensures ((no_room_lem c.args.out.now c.if-spot-ne-PORES.false c.lines_of-lines.ensures (right (goal.at.returns-then-out-judged c).In_ok-judged) c.if-out-judged.true).is c.args.view c.args.place c.in_ok-spot.ensures)

pub put_numbers-requires : goal.put_numbers-requires
put_numbers-requires c =
    rw c.of-payload.ensures (record { short = (payload_there (record { view = c.args.view; place = c.args.place; stands = c.in_ok-spot.ensures })).short; numbers = c.in_ok-judged.judged.numbers; right = right (goal.at.put_numbers-requires c).In_ok-judged; room = omega (arith, c.if-out-judged.false) })

pub returns : goal.returns
returns c =
    (numbers_given c.args.out.now c.if-spot-ne-PORES.false c.lines_of-lines.ensures (right (goal.at.returns c).In_ok-judged) c.if-out-judged.false (rw c.of-payload.ensures at c.put_numbers.ensures)).is c.args.view c.args.place c.in_ok-spot.ensures
