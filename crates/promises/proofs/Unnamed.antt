-- 13 of each call on a view: exactly where the bytes read as a record of which no view has the name. Each refuses with 13 there, and
-- has other numbers of its own.
use mathlib.Core.Path.{◌≡◌, ap, ◌∙◌, subst}
use mathlib.Core.Logic.{◌≢◌}
use Prim.Native.Nat.{ℕ, ◌≤◌}
use native.Mathlib.Omega.{arith}
use mathlib.Core.Option.{some}
use mathlib.Core.List.{List}
use lib.Dec.{ltb}
use Rattle.bits.specs.ChoiceLaws.{pick_case}
use Rattle.outcome.specs.Refusals.{no_view}
use Rattle.outcome.specs.Outcome.{Outcome, refused, room, number_of, AnswersAs, Answers}
use Rattle.outcome.specs.declared.Answer.{Answer}
use Rattle.outcome.proofs.Laws.{told_refused}
use Rattle.outcome.proofs.Refusing.{refused_answer, refused_told}
use Rattle.format.specs.Record.{read}
use Rattle.format.specs.Places.{view_at, count}
use Rattle.format.specs.Named.{NoViewNamed}
use Rattle.format.specs.declared.Scale.{Scale}
use Rattle.format.specs.declared.ViewName.{ViewName}
use Rattle.format.proofs.Laws.Finger.{Other, SaysNone, unnamed_refused, refused_unnamed, unnamed_segment, segment_unnamed}
use Rattle.trail.specs.Trail.{trail_in, trailing}
use Rattle.segment.specs.Segment.{payload_in, payload, first_bit_read, segment_answer}
use Rattle.rewrite.specs.Format.{PayloadFormat}
use Rattle.rewrite.specs.Called.{read_in, read_payload, set_in, set_payload}
use Rattle.rewrite.proofs.Laws.PayloadNumbers.{reading_refused, setting_refused}
use Rattle.card.specs.Size.{scale_of, same_scale}
use Rattle.card.specs.Card.{object_given, card_write}
use Rattle.card.proofs.Laws.Calls as CardCalls
use Rattle.orders.specs.Order.{Order, ordered, order}
use Rattle.orders.specs.Pairs.{PairsCall, pairs_call, pairs}
use Rattle.orders.proofs.Laws.Numbers.{ordered_other}
use Rattle.orders.proofs.Laws.Pairs.{pairs_view}
use Rattle.orders.proofs.Laws.PairsNumbers.{pairs_unnamed}

-- both ways
abbrev Exactly : ViewName → List ℕ → ℕ → Type 0
Exactly view bytes number = (number ≡ no_view → NoViewNamed view bytes) × (NoViewNamed view bytes → number ≡ no_view)

-- of any answer by a contract
answer_exactly : {A B : Type 0} {form : List A → List B} {lent : ℕ} {o : Outcome A} {before after : List B} {a : Answer} {view : ViewName} {bytes : List ℕ}
    → SaysNone view bytes o → (NoViewNamed view bytes → o ≡ refused no_view 0) → AnswersAs form lent o before after a → Exactly view bytes a.number
answer_exactly {lent = lent} {o = o} {view = view} {bytes = bytes} s u h = (
  refused_answer (λ e p. e ≡ no_view → NoViewNamed view bytes) (λ z. absurd (omega arith)) (λ z. absurd (omega arith)) s h,
  λ k. h.number ∙ ap (λ (x : Outcome _). number_of (room lent x)) (u k),
)

pub trail_unnamed : {B : Type 0} {form : List ℕ → List B} {lent : ℕ} {before after : List B} {a : Answer} (view : ViewName) (line : ℕ) (bytes : List ℕ)
    → AnswersAs form lent (trailing view line bytes) before after a → Exactly view bytes a.number
unfolding trailing
trail_unnamed view line bytes =
    answer_exactly
    (refused_unnamed view (trail_in line) bytes λ i r _ _. pick_case Other (ltb line (count (view_at r i))) _ _ (λ t. tt) (λ t z. absurd (omega arith)))
    (unnamed_refused view (trail_in line) bytes)

pub segment_answer_unnamed : {a : Answer} (view : ViewName) (place : ℕ) (bytes : List ℕ) → a ≡ segment_answer view place bytes → Exactly view bytes a.number
unfolding segment_answer payload
segment_answer_unnamed view place bytes e =
    rw e (
      refused_told (λ n. n ≡ no_view → NoViewNamed view bytes) (first_bit_read view place (read bytes)) (payload view place bytes) (λ z. absurd (omega arith))
          (segment_unnamed view place (payload_in place) bytes (λ i r. tt)),
      λ k. ap (λ (x : Answer). x.number) (told_refused (first_bit_read view place (read bytes)) (unnamed_segment view place (payload_in place) bytes k)),
    )

pub order_unnamed : (o : Order) (bytes : List ℕ) {before after : List ℕ} {a : Answer} → Answers (order o bytes) before after a
    → Exactly o.view bytes a.number
unfolding order
order_unnamed o bytes = answer_exactly (refused_unnamed o.view (ordered o) bytes (λ i r _ _. ordered_other o i r)) (unnamed_refused o.view (ordered o) bytes)

-- the two calls on payloads of a format, whose number is another one
module _ {A : Type 0} (F : PayloadFormat A) (high : 24 ≤ F.bad) (view : ViewName) (place : ℕ) where
  pub payload_unnamed : (bytes : List ℕ) {B : Type 0} {form : List ℕ → List B} {lent : ℕ} {before after : List B} {a : Answer}
      → AnswersAs form lent (read_payload F view place bytes) before after a → Exactly view bytes a.number
  unfolding read_payload
  payload_unnamed bytes =
      answer_exactly (segment_unnamed view place (read_in F place) bytes (reading_refused F (λ e p. e ≢ no_view) (λ z. absurd (omega arith)) place))
      (unnamed_segment view place (read_in F place) bytes)

  pub setting_unnamed : (values bytes : List ℕ) {B : Type 0} {form : List ℕ → List B} {lent : ℕ} {before after : List B} {a : Answer}
      → AnswersAs form lent (set_payload F view place values bytes) before after a → Exactly view bytes a.number
  unfolding set_payload
  setting_unnamed values bytes =
      answer_exactly
      (segment_unnamed view place (set_in F place values) bytes
      (setting_refused F (λ e p. e ≢ no_view) (λ z. absurd (omega arith)) (λ z. absurd (omega arith)) place values))
      (unnamed_segment view place (set_in F place values) bytes)

pub pairs_answer_unnamed : (view : ViewName) (n : ℕ) (orders bytes : List ℕ) {before after : List ℕ} {a : Answer}
    → Answers (pairs (pairs_call view n orders before) bytes) before after a → Exactly view bytes a.number
pairs_answer_unnamed view n orders bytes {before} =
    let m : PairsCall = pairs_call view n orders before in
    answer_exactly (pairs_unnamed m bytes) (λ k. pairs_view m bytes (λ f. unnamed_refused view f bytes k))

-- a view's object at a size that there is
pub card_unnamed : (size_number : ℕ) {scale : Scale} (view : ViewName) (bytes : List ℕ) → scale_of size_number ≡ some scale → {before after : List ℕ} {a : Answer}
    → Answers (card_write size_number view bytes) before after a → Exactly view bytes a.number
card_unnamed size_number {scale} view bytes e {before} {after} {a} h =
    answer_exactly
    (refused_unnamed view (object_given scale) bytes λ i r _ _. pick_case Other (same_scale r.head.scale scale) _ _ (λ t. tt) (λ t z. absurd (omega arith)))
    (unnamed_refused view (object_given scale) bytes)
    (subst (λ (o : Outcome ℕ). Answers o before after a) (CardCalls.write_in size_number e view bytes) h)
