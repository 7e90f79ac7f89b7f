-- A field with the tag stands there, and so do the two bytes of its length.
use native.Mathlib.Omega.{arith}
use Rattle.check_shape.proofs.Laws.Stand.{told, found, size_tells}
use Rattle.check_shape.proofs.begins.Goals as goal

pub two_at-requires : goal.two_at-requires
two_at-requires c = omega (arith, (found c.args.tag c.starts.ensures c.if-starts.true c.requires.stand).there)

pub returns-then-starts : goal.returns-then-starts
returns-then-starts c =
    record { is = λ fs h. size_tells (found c.args.tag c.starts.ensures c.if-starts.true h) c.args.size c.two_at.result (told c.if-starts.true (c.starts.ensures.is fs h)) c.two_at.ensures }
