-- A code that turns no level is one element more.
use Rattle.std.proofs.Common.{◌≡◌, ◌+◌, ◌-◌, ◌<◌, arith}
use Rattle.outcome.specs.Refusals.{bad_line}
use Rattle.trail_steps.proofs.Laws.{code_there, drawn_none, drawn_one, elements_count}
use Rattle.trail_steps.proofs.count_drawn.Goals as goal
use Rattle.trail_steps.proofs.count_drawn.Goals.{then-code-top, else-code-top}

pub loop-init : goal.loop-init
loop-init c =
    let a = c.args.walk in
    let e : a.left - 0 ≡ a.left = omega arith in
    rw e (c.requires.there, omega arith, omega (arith, elements_count a))

pub loop-preserved : goal.loop-preserved
loop-preserved c =
    let k = c.args.walk.k in
    let (r, z) = c.sure-code.ensures in
    let n = c.args.walk.left - c.loop.counter in
    let l : 0 < n = omega arith in
    let e : c.args.walk.left - (c.loop.counter + 1) ≡ n - 1 = omega arith in
    let (there, upto, is) = c.loop.invariant in
    let on = (code_there k n c.loop.codes.at _ c.requires.low l there).1 in
    elim c.if-code-top.branch [
      | then-code-top w ↦ rw (e, z) (on, omega arith, omega (arith, is, drawn_one k n l (rw z at (r bad_line)) (λ f. omega arith)))
      | else-code-top w ↦ rw (e, z) (on, omega arith, omega (arith, is, drawn_none k n l (rw z at (r bad_line)) (omega arith)))
    ]
