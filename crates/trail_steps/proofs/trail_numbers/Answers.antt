-- An element that comes is laid behind those before it, and fits 16 bits.
use Rattle.std.proofs.Common.{arith, length, ◌<◌, length-set}
use Rattle.put_bytes.proofs.Laws.{laid_one}
use Rattle.trail_steps.proofs.Laws.{element_small, room_left, laying_next}
use Rattle.trail_steps.proofs.trail_numbers.Goals as goal

pub overflow_cast-out : goal.overflow_cast-out
overflow_cast-out c =
    omega (arith, element_small _ c.loop-element.invariant.0 (c.in-Some.ensures.steps))

pub loop-element-preserved : goal.loop-element-preserved
loop-element-preserved c =
    let y = c.loop-element.invariant.1 in
    let e = c.in-Some.ensures.steps in
    let m : c.loop-element.at < length c.loop-element.out = omega (arith, room_left y e, c.requires.enough, y.same, y.laid.count) in
    (c.in-Some.ensures.goes.keeps, laying_next y e (simp length-set y.same) (laid_one c.in-Some.element y.laid m))
