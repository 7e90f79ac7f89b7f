-- The orders before the one at this place are accepted; the last one's size is not held against the limits here.
use native.Mathlib.Omega.{arith}
use Prim.Native.Nat.{◌-◌, ◌/◌}
use mathlib.Core.Path.{◌≡◌, refl}
use lib.ListN.{length}
use Rattle.std.proofs.lemmas.Result.{err_from_is_err_and}
use Rattle.bits.proofs.Laws.Place.{all_bytes}
use Rattle.order_words.proofs.Laws.Shape.{shaped}
use Rattle.order_carry.proofs.Laws.Refuses.{some_number}
use Rattle.order_pairs.proofs.Laws.Trying.{Trying, trying_start, trying_refused, trying_last, trying_sized, trying_long, trying_next}
use Rattle.order_pairs.proofs.judging.judge_list.Goals as goal
use Rattle.order_pairs.proofs.judging.judge_list.Goals.{After-loop-place}

at_last : (c : After-loop-place) → Trying c.args.bytes.now c.args.site c.args.list.now c.args.lent (length c.args.list.now / 6 - 1)
at_last c =
    let S = shaped c.args.list.now c.requires.shape in
    let z : c.loop-place.place ≡ length c.args.list.now / 6 - 1 = omega (arith, S.some, S.whole) in
    rw z at c.loop-place.invariant

pub overflow_sub-last : goal.overflow_sub-last
overflow_sub-last c =
    let S = shaped c.args.list.now c.requires.shape in omega (arith, S.some, S.whole)

pub overflow_cast-last : goal.overflow_cast-last
overflow_cast-last c =
    let S = shaped c.args.list.now c.requires.shape in omega (arith, S.whole, S.few)

pub loop-place-init : goal.loop-place-init
loop-place-init c =
    trying_start c.args.site c.args.lent (all_bytes c.args.bytes.now (λ i. (c.type_inv.bytes i).fits)) c.requires.shape

pub judge_order-requires : goal.judge_order-requires
judge_order-requires c =
    record { there = c.requires.there; place = c.loop-place.invariant.place }

pub returns-in_err-judge_order : goal.returns-in_err-judge_order
returns-in_err-judge_order c =
    let p = err_from_is_err_and c.from_residual.result c.from_residual.ensures.1 in
    let h = c.in_err-judge_order.ensures in
    rw (p.1, p.2, h.place) (trying_refused c.loop-place.invariant h.number (some_number _))

pub hold_size_after-requires : goal.hold_size_after-requires
hold_size_after-requires c =
    trying_sized c.loop-place.invariant c.in_ok-judge_order.ensures.number refl c.requires.shape c.requires.there

pub returns-in_err-hold_size_after : goal.returns-in_err-hold_size_after
returns-in_err-hold_size_after c =
    let f = c.from_residual-in_err-hold_size_after in
    let p = err_from_is_err_and f.result f.ensures.1 in
    let h = c.in_err-hold_size_after.ensures in
    rw (p.1, p.2, h.place) (trying_long c.loop-place.invariant c.in_ok-judge_order.ensures.number refl h.number (some_number _))

pub loop-place-preserved : goal.loop-place-preserved
loop-place-preserved c =
    let S = shaped c.args.list.now c.requires.shape in
    trying_next c.loop-place.invariant c.in_ok-judge_order.ensures.number refl c.in_ok-hold_size_after.ensures.number refl c.requires.shape (omega (arith, S.whole))

pub judge_order-requires-2 : goal.judge_order-requires-2
judge_order-requires-2 c =
    record { there = c.requires.there; place = (at_last (goal.at.judge_order-requires-2 c).After-loop-place).place }

pub returns-in_err-judge_order-2 : goal.returns-in_err-judge_order-2
returns-in_err-judge_order-2 c =
    let f = c.from_residual-in_err-judge_order-2 in
    let p = err_from_is_err_and f.result f.ensures.1 in
    let h = c.in_err-judge_order-2.ensures in
    rw (p.1, p.2, h.place) (trying_refused (at_last (goal.at.returns-in_err-judge_order-2 c).After-loop-place) h.number (some_number _))

pub returns : goal.returns
returns c =
    let S = shaped c.args.list.now c.requires.shape in
    trying_last (at_last (goal.at.returns c).After-loop-place) c.in_ok-judge_order-2.ensures.number refl (omega (arith, S.whole))
