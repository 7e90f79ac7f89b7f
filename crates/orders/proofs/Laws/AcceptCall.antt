-- When a call for an order is accepted: its number is 0 exactly where the bytes read as a record, the order is accepted on it, and
-- the new record fits the second buffer.
use mathlib.Core.Path.{◌≡◌, sym, ap, ◌∙◌}
use Prim.Native.Nat.{ℕ, ◌≤◌}
use native.Mathlib.Omega.{arith}
use mathlib.Core.List.{List}
use lib.ListN.{length}
use Rattle.outcome.specs.Outcome.{number_of, Answers}
use Rattle.outcome.specs.declared.Answer.{Answer}
use Rattle.outcome.proofs.Laws.{room_zero, zero_room}
use Rattle.format.specs.Record.{Record, write}
use Rattle.format.proofs.Laws.Size.{write_long}
use Rattle.orders.specs.Order.{Order, edited, order}
use Rattle.orders.specs.History.{Call, outcome}
use Rattle.orders.specs.Accept.{AcceptedCall}
use Rattle.orders.proofs.Laws.Accept.{verdict_zero}
use Rattle.orders.proofs.Laws.Refuse.{order_given}
use Rattle.orders.proofs.Laws.Holds.{order_told}
use Rattle.orders.proofs.Laws.Gives.{given_order}

-- ---- of the outcome

pub outcome_accepted : (c : Call) (bytes : List ℕ) → number_of (outcome c bytes) ≡ 0 → AcceptedCall c bytes
unfolding outcome
outcome_accepted c bytes z =
    let o : Order = c.order in
    room_zero c.lent (order_told o bytes) z λ new q l.
    given_order o bytes q λ r i e a w.
    record { value = r; reads = e; place = i; order = a; room = omega (arith, l, ap length w, write_long (edited i o.act r)) }

pub accepted_outcome : (c : Call) (bytes : List ℕ) → AcceptedCall c bytes → number_of (outcome c bytes) ≡ 0
unfolding outcome
accepted_outcome c bytes k =
    let o : Order = c.order in
    let x : Record = edited k.place o.act k.value in
    let l : length (write x) ≤ c.lent = omega (arith, k.room, write_long x) in
    zero_room c.lent (order_given o bytes k.reads k.order.means (verdict_zero o k.place k.value k.order)) l

-- ---- of any answer by the contract of the call

module _ (o : Order) (bytes : List ℕ) {before after : List ℕ} {a : Answer} (h : Answers (order o bytes) before after a) where
  pub call_accepted : a.number ≡ 0 → AcceptedCall (record { order = o; lent = length before }) bytes
  unfolding outcome
  call_accepted z = outcome_accepted (record { order = o; lent = length before }) bytes (sym h.number ∙ z)

  pub accepted_call : AcceptedCall (record { order = o; lent = length before }) bytes → a.number ≡ 0
  unfolding outcome
  accepted_call k = h.number ∙ accepted_outcome (record { order = o; lent = length before }) bytes k
