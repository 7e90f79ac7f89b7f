-- The fields, then the grammar over them.
use mathlib.Core.Path.{subst}
use Rattle.check_fields.specs.Fields.{Whole}
use Rattle.writing.proofs.Laws.{cut, in_order_lem}
use Rattle.writing.proofs.in_order.Goals as goal

pub returns-then-whole : goal.returns-then-whole
returns-then-whole c =
    in_order_lem c.args.sheet.now (subst (Whole c.args.sheet.now) c.if-whole.true c.whole.ensures) _ c.shape.ensures

pub returns-else-whole : goal.returns-else-whole
returns-else-whole c = rw c.if-whole.false (cut c.args.sheet.now (subst (Whole c.args.sheet.now) c.if-whole.false c.whole.ensures))
