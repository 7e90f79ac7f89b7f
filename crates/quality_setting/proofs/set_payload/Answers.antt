-- The type, and the values as they are judged; then what is laid is their payload.
use Rattle.std.proofs.Common.{rules, arith, ◌≡◌, Some, None}
use Rattle.std.proofs.lemmas.Result.{err_from_is_err_and}
use Rattle.outcome.specs.declared.refusal.Refusal.TheVariants.{BadQuality}
use Rattle.quality.specs.Payload.{payload_for}
use Rattle.quality_payload.specs.Payload.{PayloadRoom}
use Rattle.quality_setting.proofs.Laws.{few, not_found, image_small, other_type, broken, put, right_room, right_put}
use Rattle.quality_setting.proofs.set_payload.Goals as goal

pub returns-in_err-spot : goal.returns-in_err-spot
returns-in_err-spot c =
    let p = err_from_is_err_and c.from_residual.result c.from_residual.ensures.1 in
    rw (p.1, p.2) (not_found c.args.values.now c.args.out.now c.in_err-spot.ensures)

pub returns-then-spot-ne-LOCAL_QUALITY : goal.returns-then-spot-ne-LOCAL_QUALITY
returns-then-spot-ne-LOCAL_QUALITY c =
    rw c.into.ensures (other_type c.args.values.now c.args.out.now c.in_ok-spot.ensures c.if-spot-ne-LOCAL_QUALITY.true)

pub judge_values-requires : goal.judge_values-requires
judge_values-requires c = image_small c.in_ok-spot.ensures

pub returns-in_err-grid : goal.returns-in_err-grid
returns-in_err-grid c =
    let p = err_from_is_err_and c.from_residual-in_err-grid.result c.from_residual-in_err-grid.ensures.1 in
    let z : c.judge_values.result ≡ None = grind (arith, c.ok_or.ensures.value, c.in_err-grid.was) in
    let e : c.in_err-grid.field-0.0 ≡ BadQuality = grind (arith, c.ok_or.ensures.value, c.in_err-grid.was) in
    let B = rw z at c.judge_values.ensures in
    rw (p.1, p.2, e) (broken c.args.values.now c.args.out.now c.in_ok-spot.ensures c.if-spot-ne-LOCAL_QUALITY.false B)

pub payload_size-requires : goal.payload_size-requires
payload_size-requires c =
    let z : c.judge_values.result ≡ Some c.in_ok-grid.grid = grind (arith, c.ok_or.ensures.value, c.in_ok-grid.was) in
    let f = few (rw z at c.judge_values.ensures) in
    (f.0, f.1)

pub record_put-requires : goal.record_put-requires
record_put-requires c =
    let z : c.judge_values.result ≡ Some c.in_ok-grid.grid = grind (arith, c.ok_or.ensures.value, c.in_ok-grid.was) in
    let R = rw z at c.judge_values.ensures in
    record {
      there = record { view = c.args.view; place = c.args.place; stands = c.in_ok-spot.ensures };
      few = omega (arith, few R, c.payload_size.ensures);
      callable = λ rest m l p e. let room : PayloadRoom c.args.values.now c.in_ok-grid.grid p.now = rw e (right_room R c.payload_size.ensures m l) in search rules;
      payload = payload_for c.in_ok-spot.spot.image c.args.values.now;
      put = right_put R c.payload_size.ensures (λ rest left n h. search rules);
    }

pub returns : goal.returns
returns c =
    let z : c.judge_values.result ≡ Some c.in_ok-grid.grid = grind (arith, c.ok_or.ensures.value, c.in_ok-grid.was) in
    let R = rw z at c.judge_values.ensures in
    put c.args.values.now c.args.out.now c.in_ok-spot.ensures c.if-spot-ne-LOCAL_QUALITY.false R (right_put R c.payload_size.ensures (λ rest left n h. search rules)) c.record_put.ensures
