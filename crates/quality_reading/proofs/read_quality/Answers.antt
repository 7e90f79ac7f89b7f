-- The segment, its type, the payload as it is judged, and the room.
use Rattle.std.proofs.Common.{arith, ◌≡◌, Some, None}
use Rattle.std.proofs.lemmas.Result.{err_from_is_err_and}
use Rattle.bits.proofs.Laws.Place.{all_bytes}
use Rattle.outcome.specs.declared.refusal.Refusal.TheVariants.{BadQuality}
use Rattle.find_segment.proofs.Laws.{bounds}
use Rattle.quality_reading.proofs.Laws.{not_found, payload_there, other_type, broken, no_room_lem, values_given_lem}
use Rattle.quality_reading.proofs.read_quality.Goals as goal

pub returns-in_err-spot : goal.returns-in_err-spot
returns-in_err-spot c =
    let p = err_from_is_err_and c.from_residual.result c.from_residual.ensures.1 in
    rw (p.1, p.2) (not_found c.args.out.now c.in_err-spot.ensures)

pub returns-then-spot-ne-LOCAL_QUALITY : goal.returns-then-spot-ne-LOCAL_QUALITY
returns-then-spot-ne-LOCAL_QUALITY c =
    rw c.into.ensures (other_type c.args.out.now c.in_ok-spot.ensures c.if-spot-ne-LOCAL_QUALITY.true)

pub slice_bounds-payload-count : goal.slice_bounds-payload-count
slice_bounds-payload-count c = omega (arith, bounds c.in_ok-spot.ensures)

pub slice_bounds-payload-start : goal.slice_bounds-payload-start
slice_bounds-payload-start c = omega (arith, bounds c.in_ok-spot.ensures)

pub slice_bounds-payload-end : goal.slice_bounds-payload-end
slice_bounds-payload-end c = omega (arith, bounds c.in_ok-spot.ensures)

pub judge_payload-requires : goal.judge_payload-requires
judge_payload-requires c = payload_there c.in_ok-spot.ensures

pub returns-in_err-grid : goal.returns-in_err-grid
returns-in_err-grid c =
    let p = err_from_is_err_and c.from_residual-in_err-grid.result c.from_residual-in_err-grid.ensures.1 in
    let z : c.judge_payload.result ≡ None = grind (arith, c.ok_or.ensures.value, c.in_err-grid.was) in
    let e : c.in_err-grid.field-0.0 ≡ BadQuality = grind (arith, c.ok_or.ensures.value, c.in_err-grid.was) in
    let B = rw z at c.judge_payload.ensures in
    rw (p.1, p.2, e) (broken c.args.out.now c.in_ok-spot.ensures c.if-spot-ne-LOCAL_QUALITY.false B)

pub returns-then-out-grid : goal.returns-then-out-grid
returns-then-out-grid c =
    let z : c.judge_payload.result ≡ Some c.in_ok-grid.grid = grind (arith, c.ok_or.ensures.value, c.in_ok-grid.was) in
    let R = rw z at c.judge_payload.ensures in
    rw c.into-then-out-grid.ensures (no_room_lem c.args.out.now c.in_ok-spot.ensures c.if-spot-ne-LOCAL_QUALITY.false R (all_bytes c.args.bytes.now (λ i. (c.type_inv.bytes i).fits)) (omega arith))

pub put_values-requires : goal.put_values-requires
put_values-requires c =
    let z : c.judge_payload.result ≡ Some c.in_ok-grid.grid = grind (arith, c.ok_or.ensures.value, c.in_ok-grid.was) in
    record { image = c.in_ok-spot.spot.image; right = rw z at c.judge_payload.ensures; short = (payload_there c.in_ok-spot.ensures).short; room = omega arith }

pub returns : goal.returns
returns c =
    let z : c.judge_payload.result ≡ Some c.in_ok-grid.grid = grind (arith, c.ok_or.ensures.value, c.in_ok-grid.was) in
    let R = rw z at c.judge_payload.ensures in
    values_given_lem c.args.out.now c.in_ok-spot.ensures c.if-spot-ne-LOCAL_QUALITY.false R (all_bytes c.args.bytes.now (λ i. (c.type_inv.bytes i).fits)) (omega arith) c.put_values.ensures
