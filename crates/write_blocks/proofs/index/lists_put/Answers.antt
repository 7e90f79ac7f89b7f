-- List by list. The invariant holds of whatever lists the fields are: those passed are put.
use native.Mathlib.Omega.{arith}
use Rattle.write_blocks.proofs.Laws.Lists.{lists_next, lists_last, lists_end, list_here, list_held, list_space}
use Rattle.write_blocks.proofs.index.lists_put.Goals as goal

pub overflow_add-from : goal.overflow_add-from
overflow_add-from c =
    let pre = c.requires in
    omega (arith, (list_here c.args.w c.args.lines (c.loop-l.invariant pre.value pre.rest pre.run pre.count pre.fits) c.loop-l-test.true).field.there)

pub overflow_add-next : goal.overflow_add-next
overflow_add-next c =
    let pre = c.requires in
    omega (arith, (list_here c.args.w c.args.lines (c.loop-l.invariant pre.value pre.rest pre.run pre.count pre.fits) c.loop-l-test.true).field.there)

pub two_at-requires : goal.two_at-requires
two_at-requires c =
    let pre = c.requires in
    omega (arith, (list_here c.args.w c.args.lines (c.loop-l.invariant pre.value pre.rest pre.run pre.count pre.fits) c.loop-l-test.true).field.there)

pub overflow_add-to : goal.overflow_add-to
overflow_add-to c =
    let pre = c.requires in
    let n = (list_here c.args.w c.args.lines (c.loop-l.invariant pre.value pre.rest pre.run pre.count pre.fits) c.loop-l-test.true).field in
    omega (arith, n.there, n.size, c.two_at.ensures)

pub slice_bounds-list_put-end : goal.slice_bounds-list_put-end
slice_bounds-list_put-end c =
    let pre = c.requires in
    let n = (list_here c.args.w c.args.lines (c.loop-l.invariant pre.value pre.rest pre.run pre.count pre.fits) c.loop-l-test.true).field in
    omega (arith, n.there, n.size, c.two_at.ensures)

pub list_put-p-requires : goal.list_put-p-requires
list_put-p-requires c =
    let pre = c.requires in
    let g = c.loop-l.invariant pre.value pre.rest pre.run pre.count pre.fits in
    let n = list_here c.args.w c.args.lines g c.loop-l-test.true in
    record {
      narrow = pre.narrow;
      value = n.field.one;
      fits = n.fits;
      held = list_held c.args.w c.args.lines g n c.two_at.ensures;
      room = list_space c.args.w c.args.lines g n pre.room;
    }

pub loop-l-preserved : goal.loop-l-preserved
loop-l-preserved c = lists_next c.args.w c.args.lines c.loop-l-test.true c.two_at.ensures c.loop-l.invariant c.list_put-p.ensures

pub overflow_add-result : goal.overflow_add-result
overflow_add-result c =
    let pre = c.requires in
    omega (arith, (lists_last c.args.w c.args.lines (c.loop-l.invariant pre.value pre.rest pre.run pre.count pre.fits) c.loop-l-test.false).0.place, pre.room.near)

pub returns : goal.returns
returns c = lists_end c.args.w c.args.lines c.loop-l-test.false c.loop-l.invariant
