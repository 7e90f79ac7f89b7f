-- Field by field. The invariant is which fields are left, whatever fields stand from byte p on; the measure is the bytes that are
-- left.
use native.Mathlib.Omega.{arith}
use Rattle.check_shape.proofs.Laws.Stand.{told, denied, found, going_on, going_wrong}
use Rattle.check_shape.proofs.pass.Goals as goal

pub two_at-size-requires : goal.two_at-size-requires
two_at-size-requires c =
    let g = c.loop-kind.invariant.1 c.requires.0.value c.requires.0.stand in
    omega (arith, (found c.args.kind.tag c.starts.ensures c.loop-kind-test.true g.stand).there)

pub returns-then-not-allows : goal.returns-then-not-allows
returns-then-not-allows c =
    λ fs h. let g = c.loop-kind.invariant.1 fs h in
    going_wrong g (found c.args.kind.tag c.starts.ensures c.loop-kind-test.true g.stand) c.two_at-size.ensures (denied c.if-not-allows.true c.allows.ensures)

pub loop-kind-preserved : goal.loop-kind-preserved
loop-kind-preserved c = (
  omega (arith, c.loop-kind.invariant.0),
  λ fs h. let g = c.loop-kind.invariant.1 fs h in
      going_on g (found c.args.kind.tag c.starts.ensures c.loop-kind-test.true g.stand) c.two_at-size.ensures (told c.if-not-allows.false c.allows.ensures),
)
