-- The zero element, then distance by distance. The invariant: of the distances' bits, those from here on are still to come.
use native.Mathlib.Omega.{arith}
use mathlib.Core.Path.{◌≡◌, refl}
use Prim.Native.Nat.{◌-◌}
use Rattle.pores_payload.proofs.Laws.Putting.{distances_start, count_there, zero_fits, distance_there, distance_room, distances_next, line_put}
use Rattle.pores_payload.proofs.put_line.Goals as goal

pub four_at-count-requires : goal.four_at-count-requires
four_at-count-requires c =
    count_there c.requires

pub overflow_add-byte : goal.overflow_add-byte
overflow_add-byte c =
    omega (arith, count_there c.requires)

pub put_bits-bit-requires : goal.put_bits-bit-requires
put_bits-bit-requires c =
    zero_fits c.requires

pub loop-init : goal.loop-init
loop-init c =
    let z : c.four_at-count.result - 0 ≡ c.four_at-count.result = omega arith in
    (refl, rw z (distances_start _ _ _ _ _ _))

pub four_at-requires : goal.four_at-requires
four_at-requires c =
    distance_there c.requires c.four_at-count.ensures c.put_bits-bit.ensures c.loop.invariant.1 (omega (arith, c.loop-test.true))

pub put_distance-bit-requires : goal.put_distance-bit-requires
put_distance-bit-requires c =
    distance_room c.requires c.four_at-count.ensures c.put_bits-bit.ensures c.loop.invariant.1 (omega (arith, c.loop-test.true)) c.four_at.ensures

pub overflow_add-byte-in-loop : goal.overflow_add-byte-in-loop
overflow_add-byte-in-loop c =
    omega (arith, distance_there c.requires c.four_at-count.ensures c.put_bits-bit.ensures c.loop.invariant.1 (omega (arith, c.loop-test.true)))

pub loop-preserved : goal.loop-preserved
loop-preserved c =
    (omega (arith, c.loop.invariant.0, c.put_distance-bit.ensures.same), distances_next c.requires c.four_at-count.ensures c.put_bits-bit.ensures c.loop.invariant.1 (omega (arith, c.loop-test.true)) c.four_at.ensures (omega arith) c.put_distance-bit.ensures)

pub returns : goal.returns
returns c =
    line_put c.requires c.four_at-count.ensures c.put_bits-bit.ensures c.loop.invariant.1 (omega (arith, c.loop-test.false))
