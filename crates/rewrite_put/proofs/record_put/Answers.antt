-- The new record's size and the room; then its parts, one behind the other.
use Rattle.std.proofs.Common.{arith, refl}
use Rattle.bits.proofs.Laws.Place.{all_bytes}
use Rattle.put_bytes.proofs.Laws.{lent, room_behind}
use Rattle.rewrite_put.specs.Front.{FrontRoom}
use Rattle.rewrite_put.proofs.Laws.Front.{spot_in, in_all, front_end, tail_long}
use Rattle.rewrite_put.proofs.Laws.Put.{too_long_put, no_room_put, payload_end, tail_room, record_put_lem}
use Rattle.rewrite_put.proofs.record_put.Goals as goal

pub new_length-length-requires : goal.new_length-length-requires
new_length-length-requires g c = (spot_in c.requires.there.stands, c.requires.few)

pub returns-then-length-gt-MOST_BYTES : goal.returns-then-length-gt-MOST_BYTES
returns-then-length-gt-MOST_BYTES g c =
    rw c.into.ensures (too_long_put c.args.out.now (all_bytes c.args.old.now (λ i. (c.type_inv.old i).fits)) (omega arith))

pub returns-then-out-length : goal.returns-then-out-length
returns-then-out-length g c =
    rw c.into-then-out-length.ensures (no_room_put c.args.out.now (all_bytes c.args.old.now (λ i. (c.type_inv.old i).fits)) (omega arith) (omega arith))

pub front_put-at-requires : goal.front_put-at-requires
front_put-at-requires g c =
    record { spot = spot_in c.requires.there.stands; small = omega arith; room = omega arith }

pub put-at-requires : goal.put-at-requires
put-at-requires g c =
    let t : FrontRoom c.args.old.now c.args.spot c.args.size c.args.out.now = record { spot = spot_in c.requires.there.stands; small = omega arith; room = omega arith } in
    let F = c.front_put-at.ensures in
    c.requires.callable (lent c.front_put-at.new.out c.front_put-at.result) (omega arith) (room_behind c.args.size F (omega (arith, t.room, in_all t, front_end t F))) _ refl

pub overflow_add-at : goal.overflow_add-at
overflow_add-at g c =
    let t : FrontRoom c.args.old.now c.args.spot c.args.size c.args.out.now = record { spot = spot_in c.requires.there.stands; small = omega arith; room = omega arith } in
    let F = c.front_put-at.ensures in
    let e = payload_end t F c.put-at.result c.put-at.new.arg2 c.requires.put (record { shown = _; shows = refl; left = _; met = c.put-at.ensures; leaves = refl }) in
    omega (arith, t.room, t.small, in_all t, front_end t F, e)

pub slice_bounds-copy-count : goal.slice_bounds-copy-count
slice_bounds-copy-count g c =
    let t : FrontRoom c.args.old.now c.args.spot c.args.size c.args.out.now = record { spot = spot_in c.requires.there.stands; small = omega arith; room = omega arith } in
    let F = c.front_put-at.ensures in
    let e = payload_end t F c.put-at.result c.put-at.new.arg2 c.requires.put (record { shown = _; shows = refl; left = _; met = c.put-at.ensures; leaves = refl }) in
    omega (arith, t.room, t.small, in_all t, front_end t F, e)

pub slice_bounds-copy-start : goal.slice_bounds-copy-start
slice_bounds-copy-start g c =
    let t : FrontRoom c.args.old.now c.args.spot c.args.size c.args.out.now = record { spot = spot_in c.requires.there.stands; small = omega arith; room = omega arith } in
    let F = c.front_put-at.ensures in
    let e = payload_end t F c.put-at.result c.put-at.new.arg2 c.requires.put (record { shown = _; shows = refl; left = _; met = c.put-at.ensures; leaves = refl }) in
    omega (arith, t.room, t.small, in_all t, front_end t F, e)

pub copy-at-requires : goal.copy-at-requires
copy-at-requires g c =
    let t : FrontRoom c.args.old.now c.args.spot c.args.size c.args.out.now = record { spot = spot_in c.requires.there.stands; small = omega arith; room = omega arith } in
    let F = c.front_put-at.ensures in
    tail_room t F c.put-at.result c.put-at.new.arg2 c.requires.put (record { shown = _; shows = refl; left = _; met = c.put-at.ensures; leaves = refl })

pub overflow_add-at-2 : goal.overflow_add-at-2
overflow_add-at-2 g c =
    let t : FrontRoom c.args.old.now c.args.spot c.args.size c.args.out.now = record { spot = spot_in c.requires.there.stands; small = omega arith; room = omega arith } in
    let F = c.front_put-at.ensures in
    let e = payload_end t F c.put-at.result c.put-at.new.arg2 c.requires.put (record { shown = _; shows = refl; left = _; met = c.put-at.ensures; leaves = refl }) in
    omega (arith, t.small, in_all t, front_end t F, e, c.copy-at.ensures.count, tail_long t)

pub returns : goal.returns
returns g c =
    let t : FrontRoom c.args.old.now c.args.spot c.args.size c.args.out.now = record { spot = spot_in c.requires.there.stands; small = omega arith; room = omega arith } in
    let F = c.front_put-at.ensures in
    record_put_lem t F c.put-at.result c.put-at.new.arg2 (all_bytes c.args.old.now (λ i. (c.type_inv.old i).fits)) (record { shown = _; shows = refl; left = _; met = c.put-at.ensures; leaves = refl }) c.copy-at.ensures
