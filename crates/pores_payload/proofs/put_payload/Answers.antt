-- The resolution and e, then line by line. The invariant: of the lines' bits, those from here on are still to come.
use native.Mathlib.Omega.{arith}
use mathlib.Core.Path.{◌≡◌, refl}
use Prim.Native.Nat.{◌-◌}
use Rattle.pores_payload.proofs.Laws.Payload.{lines_start, line_same, front_there, resolution_fits, e_fits, near_end, line_room, lines_next, payload_put}
use Rattle.pores_payload.proofs.put_payload.Goals as goal

pub four_at-resolution-requires : goal.four_at-resolution-requires
four_at-resolution-requires c =
    omega (arith, front_there c.requires)

pub put_bits-bit-requires : goal.put_bits-bit-requires
put_bits-bit-requires c =
    resolution_fits c.requires c.four_at-resolution.ensures

pub put_bits-bit-requires-2 : goal.put_bits-bit-requires-2
put_bits-bit-requires-2 c =
    e_fits c.requires c.four_at-resolution.ensures c.put_bits-bit.ensures

pub loop-init : goal.loop-init
loop-init c =
    let z : c.args.lines - 0 ≡ c.args.lines = omega arith in
    (refl, rw z (lines_start _ _ _ _ _))

pub put_line-reached-requires : goal.put_line-reached-requires
put_line-reached-requires c =
    line_room c.requires c.four_at-resolution.ensures c.put_bits-bit.ensures c.put_bits-bit-2.ensures c.loop.invariant.1 (omega (arith, c.loop-test.true))

pub loop-preserved : goal.loop-preserved
loop-preserved c =
    let t = line_room c.requires c.four_at-resolution.ensures c.put_bits-bit.ensures c.put_bits-bit-2.ensures c.loop.invariant.1 (omega (arith, c.loop-test.true)) in
    (omega (arith, c.loop.invariant.0, line_same t c.put_line-reached.ensures), lines_next c.requires c.four_at-resolution.ensures c.put_bits-bit.ensures c.put_bits-bit-2.ensures c.loop.invariant.1 (omega (arith, c.loop-test.true)) (omega arith) c.put_line-reached.ensures)

pub overflow_add-result : goal.overflow_add-result
overflow_add-result c =
    omega (arith, near_end c.requires c.four_at-resolution.ensures c.put_bits-bit.ensures c.put_bits-bit-2.ensures c.loop.invariant.1)

pub returns : goal.returns
returns c =
    payload_put c.requires c.four_at-resolution.ensures c.put_bits-bit.ensures c.put_bits-bit-2.ensures c.loop.invariant.1 (omega (arith, c.loop-test.false)) refl
