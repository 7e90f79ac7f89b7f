-- The bytes one by one, and the numbers one behind the other. Each number goes to the rest of the buffer, lent on.
use native.Mathlib.Omega.{arith}
use lib.ListN.{length-take, length-drop}
use Rattle.card_runs.proofs.Laws.Back.{putting_start, putting_room, putting_small, putting_next, putting_done}
use Rattle.card_runs.proofs.put_run.Goals as goal

pub loop-byte-init : goal.loop-byte-init
loop-byte-init c =
    putting_start c.args.bytes.now c.args.out.now

pub added_at-added-requires : goal.added_at-added-requires
added_at-added-requires c =
    c.loop-byte.invariant.passed.small

pub slice_bounds-put_two-count : goal.slice_bounds-put_two-count
slice_bounds-put_two-count c = omega (arith, putting_room c.loop-byte.invariant c.loop-byte-test.true c.requires.1)

pub overflow_add-added : goal.overflow_add-added
overflow_add-added c = omega (arith, putting_small c.loop-byte.invariant c.loop-byte-test.true c.wide-x.ensures c.added_at-added.ensures c.requires.0)

pub put_two-at-requires : goal.put_two-at-requires
put_two-at-requires c =
    let room = putting_room c.loop-byte.invariant c.loop-byte-test.true c.requires.1 in
    let small = putting_small c.loop-byte.invariant c.loop-byte-test.true c.wide-x.ensures c.added_at-added.ensures c.requires.0 in
    (simp (length-take, length-drop) (omega (arith, room)), omega (arith, small))

pub overflow_add-at : goal.overflow_add-at
overflow_add-at c = omega (arith, putting_room c.loop-byte.invariant c.loop-byte-test.true c.requires.1, c.put_two-at.ensures.count)

pub loop-byte-preserved : goal.loop-byte-preserved
loop-byte-preserved c =
    putting_next c.loop-byte.invariant c.loop-byte-test.true c.wide-x.ensures c.added_at-added.ensures c.requires.0 c.requires.1 c.put_two-at.ensures

pub returns : goal.returns
returns c = putting_done c.loop-byte.invariant c.loop-byte-test.false
