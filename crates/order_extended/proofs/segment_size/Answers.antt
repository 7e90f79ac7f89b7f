-- By its type: all of it, or its four bytes and the payload that is left.
use native.Mathlib.Omega.{arith}
use mathlib.Core.Path.{ap, ◌∙◌}
use lib.ListN.{length}
use Rattle.order_extended.proofs.Laws.Segment.{stored_long, size_other, size_pores, size_short, to_keep}
use Rattle.order_extended.proofs.segment_size.Goals as goal

pub two_at-requires : goal.two_at-requires
two_at-requires c =
    let t = c.requires in
    omega (arith, ap length t.is ∙ stored_long t.value)

pub returns-then-two_at-ne-PORES : goal.returns-then-two_at-ne-PORES
returns-then-two_at-ne-PORES c =
    size_other c.args.segment.now c.args.lines c.args.removal.now c.two_at.ensures c.if-two_at-ne-PORES.true

pub slice_bounds-pores_size-count : goal.slice_bounds-pores_size-count
slice_bounds-pores_size-count c =
    let t = c.requires in
    omega (arith, ap length t.is ∙ stored_long t.value)

pub slice_bounds-pores_size-start : goal.slice_bounds-pores_size-start
slice_bounds-pores_size-start c =
    let t = c.requires in
    omega (arith, ap length t.is ∙ stored_long t.value)

pub slice_bounds-pores_size-end : goal.slice_bounds-pores_size-end
slice_bounds-pores_size-end c =
    let t = c.requires in
    omega (arith, ap length t.is ∙ stored_long t.value)

pub pores_size-requires : goal.pores_size-requires
pores_size-requires c =
    to_keep c.args.segment.now c.args.lines c.args.removal.now c.two_at.ensures c.if-two_at-ne-PORES.false c.requires

pub overflow_add-result : goal.overflow_add-result
overflow_add-result c =
    omega (arith, size_short c.args.segment.now c.args.lines c.args.removal.now c.two_at.ensures c.if-two_at-ne-PORES.false c.requires c.pores_size.ensures)

pub returns : goal.returns
returns c =
    size_pores c.args.segment.now c.args.lines c.args.removal.now c.two_at.ensures c.if-two_at-ne-PORES.false c.pores_size.ensures
