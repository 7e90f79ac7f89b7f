-- An order that has passed its tests up to its own: its outcome, in the room that is lent, is the record that it leaves, held against the
-- limits. So an answer that says the one says the other.
use mathlib.Core.Path.{◌≡◌, sym, ap, ◌∙◌}
use Prim.Native.Nat.{ℕ, ◌<◌}
use native.Mathlib.Omega.{arith}
use mathlib.Core.List.{List, []}
use lib.ListN.{length}
use lib.Dec.{leb}
use mir.Facts.{no_leb}
use Rattle.bits.specs.ChoiceLaws.{pick_no, split}
use Rattle.bits.specs.Codec.{got}
use Rattle.outcome.specs.Refusals.{too_long}
use Rattle.outcome.specs.Outcome.{given, room, Answers}
use Rattle.outcome.specs.declared.Answer.{Answer}
use Rattle.outcome.proofs.Laws.{room_enough, room_answers}
use Rattle.format.specs.Limits.{most_bytes}
use Rattle.format.specs.Record.{Record, read, size, write}
use Rattle.format.specs.Places.{view_at, count}
use Rattle.format.specs.Named.{Means}
use Rattle.format.proofs.Laws.Size.{write_long}
use Rattle.orders.specs.Order.{Order, edited, tests, Pass, order}
use Rattle.orders.specs.History.{Call, outcome}
use Rattle.orders.proofs.Laws.Accept.{verdict_zero}
use Rattle.orders.proofs.Laws.Refuse.{verdict_long, order_refused, order_given}
use Rattle.order_carry.specs.Carried.{held_to}
use Rattle.order_carry.proofs.Laws.Held.{size_long, size_over, size_within, held_given, held_refused}

module _ (o : Order) (s : List ℕ) {r : Record} (e : read s ≡ got r []) {i : ℕ} (t : Means o.view r i) (c : count (view_at r i) ≡ o.count)
    (p : Pass (tests o.act (view_at r i))) where
  pub order_held : (lent : ℕ) → room lent (order o s) ≡ held_to 0 lent (edited i o.act r)
  unfolding most_bytes
  order_held lent =
      let new : Record = edited i o.act r in
      split (size new) most_bytes
      (λ l. let g : order o s ≡ given (write new) = order_given o s e t (verdict_zero o i r (record { means = t; count = c; passes = p; small = l })) in
      split (size new) lent
      (λ k. ap (room lent) g ∙ room_enough lent (write new) (omega (arith, write_long new)) ∙ sym (held_given 0 lent new (sym (size_within lent (size new) l k))))
      (λ k. let m : lent < length (write new) = omega (arith, write_long new) in
      ap (room lent) g ∙ pick_no (leb (length (write new)) lent) _ _ (no_leb m) ∙ sym (held_refused 0 lent new (size_over lent (size new) l k) (λ z. omega arith))))
      (λ l. ap (room lent) (order_refused o s e t too_long (verdict_long o i r c p l) (omega arith))
      ∙ sym (held_refused 0 lent new (size_long lent (size new) l) (λ z. omega arith)))

  pub order_answers : {before after : List ℕ} {a : Answer} → Answers (held_to 0 (length before) (edited i o.act r)) before after a → Answers (order o s) before after a
  order_answers {before} h = room_answers (rw (order_held (length before)) h)

-- the same of an order in a sequence
pub outcome_held : (c : Call) (s : List ℕ) {r : Record} → read s ≡ got r [] → {i : ℕ} → Means c.order.view r i → count (view_at r i) ≡ c.order.count
    → Pass (tests c.order.act (view_at r i)) → outcome c s ≡ held_to 0 c.lent (edited i c.order.act r)
unfolding outcome
outcome_held c s e t n p = order_held c.order s e t n p c.lent
