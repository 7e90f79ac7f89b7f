-- By its type: copied, or its type, its payload, and then the length between them.
use native.Mathlib.Omega.{arith}
use lib.ListN.{length-take, length-drop}
use Rattle.order_extended.proofs.Laws.Segment.{put_other, put_there, put_short, put_pores, four_there, fits_other, put_same}
use Rattle.order_extended.proofs.segment_put.Goals as goal

pub two_at-requires : goal.two_at-requires
two_at-requires c =
    omega (arith, four_there c.requires)

pub copy-requires : goal.copy-requires
copy-requires c =
    fits_other c.requires c.two_at.ensures c.if-two_at-ne-PORES.true

pub shape_of-out-then-two_at-ne-PORES : goal.shape_of-out-then-two_at-ne-PORES
shape_of-out-then-two_at-ne-PORES c =
    put_same c.requires (put_other c.args.segment.now c.args.lines c.args.removal.now c.two_at.ensures c.if-two_at-ne-PORES.true c.copy.ensures)

pub returns-then-two_at-ne-PORES : goal.returns-then-two_at-ne-PORES
returns-then-two_at-ne-PORES c =
    put_other c.args.segment.now c.args.lines c.args.removal.now c.two_at.ensures c.if-two_at-ne-PORES.true c.copy.ensures

pub slice_bounds-copy-count : goal.slice_bounds-copy-count
slice_bounds-copy-count c =
    omega (arith, four_there c.requires)

pub slice_bounds-copy-start : goal.slice_bounds-copy-start
slice_bounds-copy-start c =
    omega (arith, four_there c.requires)

pub slice_bounds-copy-end : goal.slice_bounds-copy-end
slice_bounds-copy-end c =
    omega (arith, four_there c.requires)

pub copy-at-requires : goal.copy-at-requires
copy-at-requires c =
    simp (length-take, length-drop) (omega (arith, four_there c.requires))

pub slice_bounds-pores_put-count : goal.slice_bounds-pores_put-count
slice_bounds-pores_put-count c =
    omega (arith, four_there c.requires)

pub slice_bounds-pores_put-start : goal.slice_bounds-pores_put-start
slice_bounds-pores_put-start c =
    omega (arith, four_there c.requires)

pub slice_bounds-pores_put-end : goal.slice_bounds-pores_put-end
slice_bounds-pores_put-end c =
    omega (arith, four_there c.requires)

pub slice_bounds-pores_put-count-2 : goal.slice_bounds-pores_put-count-2
slice_bounds-pores_put-count-2 c =
    omega (arith, four_there c.requires)

pub slice_bounds-pores_put-start-2 : goal.slice_bounds-pores_put-start-2
slice_bounds-pores_put-start-2 c =
    omega (arith, four_there c.requires)

pub slice_bounds-pores_put-end-2 : goal.slice_bounds-pores_put-end-2
slice_bounds-pores_put-end-2 c =
    omega (arith, four_there c.requires)

pub pores_put-size-requires : goal.pores_put-size-requires
pores_put-size-requires c =
    put_there c.args.segment.now c.args.lines c.args.removal.now c.two_at.ensures c.if-two_at-ne-PORES.false c.requires (simp (length-take, length-drop) (omega (arith, four_there c.requires)))

pub slice_bounds-put_two-count : goal.slice_bounds-put_two-count
slice_bounds-put_two-count c =
    omega (arith, four_there c.requires, c.copy-at.ensures.count, length-take 2 c.args.segment.now)

pub slice_bounds-put_two-start : goal.slice_bounds-put_two-start
slice_bounds-put_two-start c =
    omega (arith, four_there c.requires, c.copy-at.ensures.count, length-take 2 c.args.segment.now)

pub slice_bounds-put_two-end : goal.slice_bounds-put_two-end
slice_bounds-put_two-end c =
    omega (arith, four_there c.requires, c.copy-at.ensures.count, length-take 2 c.args.segment.now)

pub overflow_add-size : goal.overflow_add-size
overflow_add-size c =
    omega (arith, put_short c.args.segment.now c.args.lines c.args.removal.now c.two_at.ensures c.if-two_at-ne-PORES.false c.requires.there c.pores_put-size.ensures)

pub put_two-requires : goal.put_two-requires
put_two-requires c =
    (simp (length-take, length-drop) (omega (arith, four_there c.requires, c.copy-at.ensures.count, length-take 2 c.args.segment.now)), omega (arith, put_short c.args.segment.now c.args.lines c.args.removal.now c.two_at.ensures c.if-two_at-ne-PORES.false c.requires.there c.pores_put-size.ensures))

pub overflow_add-result : goal.overflow_add-result
overflow_add-result c =
    omega (arith, put_short c.args.segment.now c.args.lines c.args.removal.now c.two_at.ensures c.if-two_at-ne-PORES.false c.requires.there c.pores_put-size.ensures)

pub shape_of-out : goal.shape_of-out
shape_of-out c =
    put_same c.requires (put_pores c.args.segment.now c.args.lines c.args.removal.now c.two_at.ensures c.if-two_at-ne-PORES.false (four_there c.requires).0 c.copy-at.ensures c.pores_put-size.ensures c.put_two.ensures)

pub returns : goal.returns
returns c =
    put_pores c.args.segment.now c.args.lines c.args.removal.now c.two_at.ensures c.if-two_at-ne-PORES.false (four_there c.requires).0 c.copy-at.ensures c.pores_put-size.ensures c.put_two.ensures
