-- Neighbour by neighbour; the invariant is what is laid and what is still read.
use native.Mathlib.Omega.{arith}
use mathlib.Core.Path.{◌≡◌, refl, ap}
use Prim.Native.Nat.{◌-◌}
use lib.ListN.{length-take, length-drop}
use Rattle.bits.specs.Lists.{total}
use Rattle.outcome.specs.Refusals.{bad_index}
use Rattle.put_bytes.specs.HighFirst.{two}
use Rattle.read_blocks.proofs.Laws.Underway.{at_first, one_more, at_last}
use Rattle.read_blocks.proofs.Laws.Index.{number_at, numbers_end, twos, one_value}
use Rattle.read_blocks.proofs.index.numbers_out.Goals as goal

pub loop-init : goal.loop-init
loop-init c =
    let there = c.requires.2 in
    let z : c.args.n - 0 ≡ c.args.n = omega arith in
    (there.place, omega arith, (0, rw z (at_first two (λ x. 2) there.reads (rw twos there.room))))

pub sure-d-requires : goal.sure-d-requires
sure-d-requires c =
    let (at, low, (m, U)) = c.loop.invariant in
    let t = number_at c.args.w c.args.n c.loop.counter m c.loop.number c.args.block.now c.loop.next.at (omega arith) at U.next in
    (c.requires.2.short, c.requires.0, omega (arith, t.there.within))

pub overflow_sub-number : goal.overflow_sub-number
overflow_sub-number c =
    let (at, low, (m, U)) = c.loop.invariant in
    let t = number_at c.args.w c.args.n c.loop.counter m c.loop.number c.args.block.now c.loop.next.at (omega arith) at U.next in
    omega (arith, (one_value t.there.is (c.sure-d.ensures.0 bad_index)).0, t.fits)

pub put_two-written-requires : goal.put_two-written-requires
put_two-written-requires c =
    let (at, low, (m, U)) = c.loop.invariant in
    let t = number_at c.args.w c.args.n c.loop.counter m c.loop.number c.args.block.now c.loop.next.at (omega arith) at U.next in
    (simp (length-take, length-drop) (omega (arith, U.laying.room, ap (total (λ x. 2)) t.is)), omega (arith, low, c.requires.1))

pub loop-preserved : goal.loop-preserved
loop-preserved c =
    let (at, low, (m, U)) = c.loop.invariant in
    let t = number_at c.args.w c.args.n c.loop.counter m c.loop.number c.args.block.now c.loop.next.at (omega arith) at U.next in
    let d = (one_value t.there.is (c.sure-d.ensures.0 bad_index)).0 in
    let next = rw (← d, ← c.sure-d.ensures.1) at t.next in
    ((c.sure-d.ensures.0 bad_index).within, omega arith, (1, one_more two (λ x. 2) U (rw (← d) at t.is) next refl c.put_two-written.ensures))

pub returns : goal.returns
returns c =
    let (at, low, (m, U)) = c.loop.invariant in
    let done = at_last two (λ x. 2) U (numbers_end c.args.w c.args.n c.loop.counter m c.loop.number _ (omega arith)) in
    record { value = U.all; reads = record { is = done.0; within = at }; laid = done.1 }
