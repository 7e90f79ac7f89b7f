-- All ones as often as they pass, then the last element. The invariant: of the distance's bits, those from here on are still to come.
use native.Mathlib.Omega.{arith}
use mathlib.Core.Path.{◌≡◌}
use Prim.Native.Nat.{◌-◌}
use Rattle.pores_elements.specs.Element.{most}
use Rattle.pores_elements.proofs.ElementLaws.{pow_four}
use Rattle.pores_payload.proofs.Laws.Putting.{two_passed, ones_fit, ones_put, last_fits, last_put}
use Rattle.pores_payload.proofs.put_distance.Goals as goal
use Rattle.pores_payload.proofs.put_distance.Goals.{After-pow2-most}

is_most : (c : After-pow2-most) → c.pow2-most.result - 2 ≡ most c.args.e
is_most c = omega (arith, c.pow2-most.ensures.0)

pub overflow_sub-most : goal.overflow_sub-most
overflow_sub-most c =
    omega (arith, c.pow2-most.ensures.0, pow_four c.args.e c.requires.fits.bits)

pub nonzero_div-ones : goal.nonzero_div-ones
nonzero_div-ones c =
    omega (arith, (two_passed c.requires (is_most (goal.at.nonzero_div-ones c).After-pow2-most)).0)

pub put_bits-next-requires : goal.put_bits-next-requires
put_bits-next-requires c =
    ones_fit c.requires (is_most (goal.at.put_bits-next-requires c).After-pow2-most) c.loop.invariant.1 (omega (arith, c.loop-test.true))

pub loop-preserved : goal.loop-preserved
loop-preserved c =
    (omega (arith, c.loop.invariant.0, c.put_bits-next.ensures.same), ones_put c.requires (is_most (goal.at.loop-preserved c).After-pow2-most) c.loop.invariant.1 (omega (arith, c.loop-test.true)) (omega arith) c.put_bits-next.ensures)

pub nonzero_rem-distance : goal.nonzero_rem-distance
nonzero_rem-distance c =
    omega (arith, (two_passed c.requires (is_most (goal.at.nonzero_rem-distance c).After-pow2-most)).0)

pub put_bits-requires : goal.put_bits-requires
put_bits-requires c =
    last_fits c.requires (is_most (goal.at.put_bits-requires c).After-pow2-most) c.loop.invariant.1 (omega (arith, c.loop-test.false))

pub returns : goal.returns
returns c =
    last_put c.requires (is_most (goal.at.returns c).After-pow2-most) c.loop.invariant.1 (omega (arith, c.loop-test.false)) c.put_bits.ensures
