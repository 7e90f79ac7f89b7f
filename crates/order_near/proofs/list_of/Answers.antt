-- List by list, up to the line's own.
use native.Mathlib.Omega.{arith}
use mathlib.Core.Path.{◌≡◌}
use Rattle.order_near.proofs.Laws.{passing_first, passing_next, passing_there, passing_done}
use Rattle.order_near.proofs.list_of.Goals as goal

pub loop-l-init : goal.loop-l-init
loop-l-init c =
    passing_first c.args.w c.args.block.now c.args.line

pub list_at-p-requires : goal.list_at-p-requires
list_at-p-requires c =
    passing_there c.args.w c.args.block.now c.args.line c.requires c.loop-l.invariant (omega (arith, c.requires.there))

pub loop-l-preserved : goal.loop-l-preserved
loop-l-preserved c =
    passing_next c.args.w c.args.block.now c.args.line c.loop-l.invariant c.loop-l-test.true c.list_at-p.ensures

pub list_at-requires : goal.list_at-requires
list_at-requires c =
    let z : c.loop-l.l ≡ c.args.line = omega arith in
    rw z at (passing_there c.args.w c.args.block.now c.args.line c.requires c.loop-l.invariant (omega (arith, c.requires.there)))

pub returns : goal.returns
returns c =
    passing_done c.args.w c.args.block.now c.args.line c.loop-l.invariant (omega arith) c.list_at.ensures
