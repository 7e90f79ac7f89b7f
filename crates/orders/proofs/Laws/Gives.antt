-- What an order gives. One whose own tests pass leaves its record, or is refused because that record is too long: so two such orders
-- that leave the same record have the same outcome. And what is given is the record that it leaves, of one on which it is accepted.
use mathlib.Core.Path.{◌≡◌, sym, ap, ◌∙◌}
use Prim.Native.Nat.{ℕ}
use native.Mathlib.Omega.{arith}
use mathlib.Core.List.{List, []}
use lib.Dec.{leb, eqb, leb→le, nleb→lt, eqb→eq}
use Rattle.bits.specs.Choice.{pick}
use Rattle.bits.specs.ChoiceLaws.{pick_case, pick_split}
use Rattle.bits.specs.Codec.{got}
use Rattle.outcome.specs.Refusals.{too_long}
use Rattle.outcome.specs.Outcome.{Outcome, refused, given}
use Rattle.outcome.proofs.Laws.{not_given}
use Rattle.format.specs.Limits.{most_bytes}
use Rattle.format.specs.Record.{Record, read, size, write}
use Rattle.format.specs.Places.{view_at, count}
use Rattle.format.specs.Named.{Means}
use Rattle.format.proofs.Laws.Call.{on_view_lem, given_view}
use Rattle.format.proofs.Laws.Record.{read_is}
use Rattle.orders.specs.Order.{Order, edited, tests, verdict, Pass, Accepted, ordered, order}
use Rattle.orders.proofs.Laws.Accept.{accepted, verdict_zero}
use Rattle.orders.proofs.Laws.Refuse.{verdict_long, order_refused, order_given}

-- the record x, held against 32,768 bytes
abbrev pub limited : Record → Outcome ℕ
limited x = pick (leb (size x) most_bytes) (given (write x)) (refused too_long 0)

pub order_limited : (o : Order) (bytes : List ℕ) {r : Record} → read bytes ≡ got r [] → {i : ℕ} → Means o.view r i → count (view_at r i) ≡ o.count
    → Pass (tests o.act (view_at r i)) → order o bytes ≡ limited (edited i o.act r)
order_limited o bytes {r} e {i} m c p =
    let x : Record = edited i o.act r in
    pick_case (λ (y : Outcome ℕ). order o bytes ≡ y) (leb (size x) most_bytes) _ _
    (λ t. order_given o bytes e m (verdict_zero o i r (record { means = m; count = c; passes = p; small = leb→le (size x) most_bytes t })))
    (λ t. order_refused o bytes e m too_long (verdict_long o i r c p (nleb→lt (size x) most_bytes t)) (omega arith))

-- ---- given

module _ {X : Type 0} (o : Order) (bytes : List ℕ) {new : List ℕ} where
  pub given_on : {r : Record} → read bytes ≡ got r [] → {i : ℕ} → Means o.view r i → order o bytes ≡ given new
      → (Accepted o i r → new ≡ write (edited i o.act r) → X) → X
  unfolding order
  given_on {r} e {i} m h k =
      pick_split (eqb (verdict o i r) 0) _ _ (sym (on_view_lem o.view (ordered o) bytes e m) ∙ h)
      (λ t y. let w : write (edited i o.act r) ≡ new = cc in k (accepted o r m (eqb→eq (verdict o i r) 0 t)) (sym w)) (λ t y. not_given y)

  pub given_order : order o bytes ≡ given new
      → ((r : Record) (i : ℕ) → read bytes ≡ got r [] → Accepted o i r → new ≡ write (edited i o.act r) → X) → X
  unfolding order
  given_order h k =
      given_view o.view (ordered o) bytes new h λ r rest i e m _.
      let d : read bytes ≡ got r [] = e ∙ ap (got r) (read_is bytes r rest e).3 in
      given_on d m h (k r i d)
