-- View by view. The invariant is which views are left, whatever fields stand behind the 01; the measure is the bytes that are left.
use native.Mathlib.Omega.{arith}
use Rattle.check_shape.proofs.Laws.Stand.{denied, begun_there}
use Rattle.check_shape.proofs.Laws.Sheet.{further, going_on, going_wrong, going_all, shape_is, no_first, views_not, no_views, some_views}
use Rattle.check_shape.proofs.shape.Goals as goal

pub returns-then-not-begins : goal.returns-then-not-begins
returns-then-not-begins c =
    shape_is c.requires _ (no_first c.requires.value (denied c.if-not-begins.true (c.begins.ensures.is c.requires.value c.requires.stand)))

pub view_end-requires : goal.view_end-requires
view_end-requires c =
    let B = begun_there 1 9 c.begins.ensures c.if-not-begins.false c.requires.stand in
    let g = c.loop-p.invariant.1 B.others B.behind in record { value = g.left; stand = g.stand }

pub returns-in_default : goal.returns-in_default
returns-in_default c =
    let B = begun_there 1 9 c.begins.ensures c.if-not-begins.false c.requires.stand in
    let g = c.loop-p.invariant.1 B.others B.behind in
    shape_is c.requires _ (views_not B (going_wrong g c.loop-p-test.true (c.in_default.ensures g.left g.stand)))

pub loop-p-smaller : goal.loop-p-smaller
loop-p-smaller c =
    let B = begun_there 1 9 c.begins.ensures c.if-not-begins.false c.requires.stand in
    let g = c.loop-p.invariant.1 B.others B.behind in
    let v = c.in-Some.ensures g.left g.stand in
    omega (arith, further g.stand v, v.behind.within)

pub loop-p-preserved : goal.loop-p-preserved
loop-p-preserved c =
    let B = begun_there 1 9 c.begins.ensures c.if-not-begins.false c.requires.stand in
    let g = c.loop-p.invariant.1 B.others B.behind in (
      omega (arith, further g.stand (c.in-Some.ensures g.left g.stand), c.loop-p.invariant.0),
      λ fs h. let k = c.loop-p.invariant.1 fs h in going_on k (c.in-Some.ensures k.left k.stand),
    )

pub returns-then-views-gt0 : goal.returns-then-views-gt0
returns-then-views-gt0 c =
    let B = begun_there 1 9 c.begins.ensures c.if-not-begins.false c.requires.stand in
    let (n, t) = going_all (c.loop-p.invariant.1 B.others B.behind) c.loop-p-test.false in shape_is c.requires _ (some_views B n t c.if-views-gt0.true)

pub returns-else-views-gt0 : goal.returns-else-views-gt0
returns-else-views-gt0 c =
    let B = begun_there 1 9 c.begins.ensures c.if-not-begins.false c.requires.stand in
    let (n, t) = going_all (c.loop-p.invariant.1 B.others B.behind) c.loop-p-test.false in shape_is c.requires _ (no_views B n t c.if-views-gt0.false)
