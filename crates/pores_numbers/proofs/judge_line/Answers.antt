-- The count, and then distance by distance. The invariant: what those from here on say, with the elements so far, is what all say.
use native.Mathlib.Omega.{arith}
use native.Mathlib.Nat.{div-le_self}
use mathlib.Core.Path.{◌≡◌}
use Prim.Native.Nat.{◌-◌}
use Rattle.pores_elements.proofs.ElementLaws.{pow_four}
use Rattle.pores_numbers.proofs.Laws.Fours.{four_small}
use Rattle.pores_numbers.proofs.Laws.Judging.{no_line_lem, distances_start, distances_cut, distance_fits, distances_zero, distances_next, distances_done}
use Rattle.pores_numbers.proofs.judge_line.Goals as goal

pub returns-then-values-at : goal.returns-then-values-at
returns-then-values-at c =
    no_line_lem c.requires c.if-values-at.true

pub overflow_sub-most : goal.overflow_sub-most
overflow_sub-most c =
    omega (arith, c.pow2-most.ensures.0, pow_four c.args.e c.requires.low)

pub loop-init : goal.loop-init
loop-init c =
    let z : c.four_at-count.result - 0 ≡ c.four_at-count.result = omega arith in
    rw z (distances_start c.requires c.if-values-at.false c.four_at-count.ensures c.min-total.ensures)

pub returns-then-values-next : goal.returns-then-values-next
returns-then-values-next c =
    distances_cut c.requires c.if-values-at.false c.four_at-count.ensures c.min-total.ensures c.loop.invariant (omega (arith, c.loop-test.true)) c.if-values-next.true

pub four_at-distance-requires : goal.four_at-distance-requires
four_at-distance-requires c =
    distance_fits c.requires c.if-values-at.false c.four_at-count.ensures c.min-total.ensures c.loop.invariant (omega (arith, c.loop-test.true)) c.if-values-next.false

pub returns-then-distance-eq0 : goal.returns-then-distance-eq0
returns-then-distance-eq0 c =
    distances_zero c.requires c.if-values-at.false c.four_at-count.ensures c.min-total.ensures c.loop.invariant (omega (arith, c.loop-test.true)) c.if-values-next.false c.four_at-distance.ensures c.if-distance-eq0.true

pub nonzero_div-distance : goal.nonzero_div-distance
nonzero_div-distance c =
    omega (arith, c.pow2-most.ensures.0, pow_four c.args.e c.requires.low)

pub overflow_add-total : goal.overflow_add-total
overflow_add-total c =
    let d = c.four_at-distance.result in
    let p = c.pow2-most.result in
    omega (arith, c.loop.invariant.few, c.four_at-distance.ensures, four_small c.args.values.now c.loop.next (λ i. (c.type_inv.values i).fits), div-le_self (d - 1) (p - 2))

pub overflow_add-total-in-loop : goal.overflow_add-total-in-loop
overflow_add-total-in-loop c =
    let d = c.four_at-distance.result in
    let p = c.pow2-most.result in
    omega (arith, c.loop.invariant.few, c.four_at-distance.ensures, four_small c.args.values.now c.loop.next (λ i. (c.type_inv.values i).fits), div-le_self (d - 1) (p - 2))

pub loop-preserved : goal.loop-preserved
loop-preserved c =
    distances_next c.requires c.if-values-at.false c.four_at-count.ensures c.min-total.ensures c.loop.invariant (omega (arith, c.loop-test.true)) c.if-values-next.false c.four_at-distance.ensures (omega arith) c.if-distance-eq0.false c.pow2-most.ensures.0 c.min-total-in-loop.ensures

pub returns : goal.returns
returns c =
    distances_done c.requires c.if-values-at.false c.four_at-count.ensures c.min-total.ensures c.loop.invariant (omega (arith, c.loop-test.false))
