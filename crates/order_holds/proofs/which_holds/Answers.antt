-- The tests pick the case of the definition.
use native.Mathlib.Omega.{arith}
use mathlib.Core.Path.{sym}
use Rattle.order_holds.proofs.Laws.{refused_held, new_held, old_held}
use Rattle.order_holds.proofs.which_holds.Goals as goal

pub returns-then-number-ne0 : goal.returns-then-number-ne0
returns-then-number-ne0 c =
    sym (refused_held c.args.old.now c.args.second.now c.args.number c.args.length c.if-number-ne0.true)

pub returns-then-length-second : goal.returns-then-length-second
returns-then-length-second c =
    sym (new_held c.args.old.now c.args.second.now c.args.number c.args.length c.if-number-ne0.false c.if-length-second.true)

pub returns-else-length-second : goal.returns-else-length-second
returns-else-length-second c =
    sym (old_held c.args.old.now c.args.second.now c.args.number c.args.length c.if-number-ne0.false (omega (arith, c.if-length-second.false)))
