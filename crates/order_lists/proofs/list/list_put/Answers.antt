-- Bits kept free, then line by line, then the count into them. The invariant holds of whatever lines the list has: the differences of
-- those that stay are put, and counted.
use native.Mathlib.Omega.{arith}
use mathlib.Core.Path.{refl}
use Prim.Native.Nat.{◌-◌}
use lib.Pow.{pow_pos}
use Rattle.find_parts.proofs.Laws.Lists.{list_bits_lem}
use Rattle.order_removal.specs.Rank.{below}
use Rattle.order_lists.specs.List.{become}
use Rattle.order_lists.proofs.Laws.List.{putting_first, putting_gone, put_fits, put_room, putting_stays, all_counted, put_all}
use borrow.Author.Rules.{rules}
use Rattle.order_lists.proofs.list.list_put.Goals as goal

pub put_bits-p-requires : goal.put_bits-p-requires
put_bits-p-requires c =
    let p = c.requires in
    let b = list_bits_lem c.args.width c.args.list.own (become c.args.list c.args.words.now c.args.removal.now c.requires.there.value) in
    record { below = pow_pos c.args.width; narrow = p.narrow; room = omega (arith, b, p.room.room); near = omega (arith, b, p.room.near) }

pub loop-k-init : goal.loop-k-init
loop-k-init c =
    (c.requires.there.narrow, omega (arith, c.requires.there.few, c.requires.there.lines, c.requires.there.at.within), refl, putting_first)

pub overflow_add-k : goal.overflow_add-k
overflow_add-k c =
    omega (arith, c.loop-k.invariant.1)

pub step_on-step-requires : goal.step_on-step-requires
step_on-step-requires c =
    let p = c.requires.there in
    let m = (c.loop-k.invariant.3 c.requires.there.value c.requires.there.behind c.requires.there.at c.requires.fits) in
    record { narrow = c.loop-k.invariant.0; short = p.short; more = omega (arith, c.loop-k-test.true); before = m.top; value = m.ms; behind = p.behind; at = m.at }

pub fate_of-requires : goal.fate_of-requires
fate_of-requires c =
    c.requires.there.rising

pub loop-k-smaller-in_default : goal.loop-k-smaller-in_default
loop-k-smaller-in_default c =
    c.step_on-step.ensures.less

pub loop-k-preserved-in_default : goal.loop-k-preserved-in_default
loop-k-preserved-in_default c =
    (omega (arith, c.loop-k.invariant.0, c.step_on-step.ensures.width), omega (arith, c.loop-k.invariant.1, c.step_on-step.ensures.less), c.loop-k.invariant.2, putting_gone c.step_on-step.ensures c.loop-k.invariant.3 c.in_default.ensures)

pub overflow_sub-before : goal.overflow_sub-before
overflow_sub-before c =
    omega (arith, (put_fits c.step_on-step.ensures c.in-Some.line c.in-Some.ensures.1 c.in-Some.ensures.0 (c.loop-k.invariant.3 c.requires.there.value c.requires.there.behind c.requires.there.at c.requires.fits)).0)

pub put_bits-p-requires-in-loop-k : goal.put_bits-p-requires-in-loop-k
put_bits-p-requires-in-loop-k c =
    let p = c.requires in
    let m = (c.loop-k.invariant.3 c.requires.there.value c.requires.there.behind c.requires.there.at c.requires.fits) in
    let b = list_bits_lem c.args.width c.args.list.own (become c.args.list c.args.words.now c.args.removal.now c.requires.there.value) in
    let r = put_room c.step_on-step.ensures c.in-Some.line c.in-Some.ensures.1 c.in-Some.ensures.0 m in
    let first = c.put_bits-p.ensures in
    record {
      below = (put_fits c.step_on-step.ensures c.in-Some.line c.in-Some.ensures.1 c.in-Some.ensures.0 m).1;
      narrow = p.narrow;
      room = omega (arith, r, b, first.place, first.same, c.loop-k.invariant.2, p.room.room);
      near = omega (arith, r, b, first.place, p.room.near);
    }

pub overflow_add-count : goal.overflow_add-count
overflow_add-count c =
    omega (arith, c.loop-k.invariant.1, c.step_on-step.ensures.less)

pub loop-k-smaller : goal.loop-k-smaller
loop-k-smaller c =
    c.step_on-step.ensures.less

pub loop-k-preserved : goal.loop-k-preserved
loop-k-preserved c =
    (omega (arith, c.loop-k.invariant.0, c.step_on-step.ensures.width), omega (arith, c.loop-k.invariant.1, c.step_on-step.ensures.less), search rules, putting_stays c.step_on-step.ensures c.loop-k.invariant.3 c.in-Some.line c.in-Some.ensures.1 c.in-Some.ensures.0 c.put_bits-p-in-loop-k.ensures)

pub put_into-requires : goal.put_into-requires
put_into-requires c =
    let p = c.requires in
    let b = list_bits_lem c.args.width c.args.list.own (become c.args.list c.args.words.now c.args.removal.now c.requires.there.value) in
    let e = all_counted (omega (arith, c.loop-k-test.false)) (c.loop-k.invariant.3 c.requires.there.value c.requires.there.behind c.requires.there.at c.requires.fits) in
    let first = c.put_bits-p.ensures in
    let n = c.loop-k.invariant.2 in
    record { below = rw e p.fits.count; narrow = p.narrow; room = omega (arith, b, first.same, n, p.room.room); near = omega (arith, b, p.room.near) }

pub shape_of-out : goal.shape_of-out
shape_of-out c =
    omega (arith, c.put_into.ensures.same, c.loop-k.invariant.2, c.put_bits-p.ensures.same)

pub returns : goal.returns
returns c =
    put_all (omega (arith, c.loop-k-test.false)) c.put_bits-p.ensures c.loop-k.invariant.3 c.put_into.ensures
