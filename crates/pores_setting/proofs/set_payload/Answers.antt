-- The segment, its type, and the numbers as they are judged; then what is laid is their payload.
use native.Mathlib.Omega.{arith}
use Rattle.std.proofs.Common.{rules}
use mathlib.Core.Path.{◌≡◌, subst}
use Rattle.std.specs.Prelude.{Option, Some, None}
use Rattle.std.proofs.lemmas.Result.{err_from_is_err_and}
use Rattle.outcome.specs.declared.refusal.Refusal.TheVariants.{BadPores}
use Rattle.pores.specs.Payload.{payload_of}
use Rattle.pores_payload.specs.Payload.{PayloadRoom}
use Rattle.pores_numbers.specs.Judged.{NumbersRight, NumbersJudged}
use Rattle.pores_numbers.specs.declared.JudgedNumbers.{JudgedNumbers}
use Rattle.pores_setting.proofs.Laws.{not_found, few_bits_lem, few, other_type, broken, put, right_room, right_put}
use Rattle.pores_setting.proofs.set_payload.Goals as goal
use Rattle.pores_setting.proofs.set_payload.Goals.{In_ok-judged}

right : (c : In_ok-judged) → NumbersRight c.lines_of-lines.result c.args.values.now c.in_ok-judged.judged.e c.in_ok-judged.judged.elements
right c =
    let z : c.judge_numbers.result ≡ Some c.in_ok-judged.judged = grind (arith, c.ok_or.ensures.value, c.in_ok-judged.was) in
    subst (λ (r : Option JudgedNumbers). NumbersJudged c.lines_of-lines.result c.args.values.now r) z c.judge_numbers.ensures

pub returns-in_err-spot : goal.returns-in_err-spot
returns-in_err-spot c =
    let p = err_from_is_err_and c.from_residual.result c.from_residual.ensures.1 in
    rw (p.1, p.2) (not_found c.args.values.now c.args.out.now c.in_err-spot.ensures)

pub returns-then-spot-ne-PORES : goal.returns-then-spot-ne-PORES
returns-then-spot-ne-PORES c =
    rw c.into.ensures ((other_type c.args.values.now c.args.out.now c.if-spot-ne-PORES.true).is c.args.view c.args.place c.in_ok-spot.ensures)

pub returns-in_err-judged : goal.returns-in_err-judged
returns-in_err-judged c =
    let p = err_from_is_err_and c.from_residual-in_err-judged.result c.from_residual-in_err-judged.ensures.1 in
    let z : c.judge_numbers.result ≡ None = grind (arith, c.ok_or.ensures.value, c.in_err-judged.was) in
    let w : c.in_err-judged.field-0.0 ≡ BadPores = grind (arith, c.ok_or.ensures.value, c.in_err-judged.was) in
    rw (p.1, p.2, w) ((broken c.args.values.now c.args.out.now c.if-spot-ne-PORES.false c.lines_of-lines.ensures (subst (λ (r : Option JudgedNumbers). NumbersJudged c.lines_of-lines.result c.args.values.now r) z c.judge_numbers.ensures)).is c.args.view c.args.place c.in_ok-spot.ensures)

pub payload_size-size-requires : goal.payload_size-size-requires
payload_size-size-requires c =
    few (right (goal.at.payload_size-size-requires c).In_ok-judged)

pub record_put-requires : goal.record_put-requires
record_put-requires c =
    let R = right (goal.at.record_put-requires c).In_ok-judged in
    record {
      there = record { view = c.args.view; place = c.args.place; stands = c.in_ok-spot.ensures };
      few = omega (arith, c.payload_size-size.ensures, few_bits_lem (few R));
      callable = λ rest m l p e. let room : PayloadRoom c.lines_of-lines.result c.args.values.now c.in_ok-judged.judged.e p.now = rw e (right_room R c.payload_size-size.ensures m l) in search rules;
      payload = payload_of R.value;
      put = right_put R c.payload_size-size.ensures (λ rest left n h. search rules);
    }

pub returns : goal.returns
returns c =
    let R = right (goal.at.returns c).In_ok-judged in
    (put c.args.values.now c.args.out.now c.if-spot-ne-PORES.false c.lines_of-lines.ensures R (right_put R c.payload_size-size.ensures (λ rest left n h. search rules)) c.record_put.ensures).is c.args.view c.args.place c.in_ok-spot.ensures
