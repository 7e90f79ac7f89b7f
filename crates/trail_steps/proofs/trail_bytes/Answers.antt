-- An element that comes is laid behind those before it, and fits two bytes.
use Rattle.std.proofs.Common.{arith, length, ◌+◌, ◌*◌, ◌/◌, ◌≤◌, ◌≡◌, length-take, length-drop}
use Rattle.put_bytes.specs.HighFirst.{two}
use Rattle.put_bytes.proofs.Laws.{laid_next, laid_same, joined_snoc, twos_length}
use Rattle.trail_steps.proofs.Laws.{element_small, room_left, laying_next, laying_end}
use Rattle.trail_steps.proofs.trail_bytes.Goals as goal

pub put_two-at-requires : goal.put_two-at-requires
put_two-at-requires c =
    let y = c.loop-element.invariant.1 in
    let e = c.in-Some.ensures.steps in (
      simp (length-take, length-drop) (omega (arith, room_left y e, c.requires.enough, y.same, y.laid.count, twos_length y.came)),
      omega (arith, element_small _ c.loop-element.invariant.0 e),
    )

pub loop-element-preserved : goal.loop-element-preserved
loop-element-preserved c =
    let y = c.loop-element.invariant.1 in
    let e = c.in-Some.ensures.steps in
    let h = laid_next y.laid c.put_two-at.ensures in
    let m : c.loop-element.at + 2 ≤ length c.loop-element.out = omega (arith, room_left y e, c.requires.enough, y.same, y.laid.count, twos_length y.came) in
    (c.in-Some.ensures.goes.keeps, laying_next y e (laid_same h (omega (arith, m, y.same, c.put_two-at.ensures.count))) (rw (joined_snoc two) h))

pub returns : goal.returns
returns c =
    let y = c.loop-element.invariant.1 in
    let e : 2 * (c.loop-element.at / 2) ≡ c.loop-element.at = omega (arith, y.laid.count, twos_length y.came) in
    rw e (laying_end y c.in-None.ensures.steps.0)
