-- The places of each call: those of the record's refusals, and 0 for all that a call refuses of its own.
use mathlib.Core.Path.{◌≡◌, refl, ◌∙◌}
use mathlib.Core.Logic.{◌≢◌}
use Prim.Native.Nat.{ℕ, ◌*◌}
use mathlib.Core.Bool.{Bool}
use mathlib.Core.List.{List}
use lib.ListN.{length}
use lib.Dec.{leb, ltb, eqb}
use Rattle.bits.specs.ChoiceLaws.{pick_case}
use Rattle.bits.specs.Codec.{Read}
use Rattle.bits.specs.Codec as C
use Rattle.outcome.specs.Outcome.{Outcome, given, room, place_of, AnswersAs, Answers}
use Rattle.outcome.specs.Placed.{Placed}
use Rattle.outcome.specs.declared.Answer.{Answer}
use Rattle.outcome.proofs.Refusing.{Refused}
use Rattle.outcome.proofs.Placed.{no_place, answer_place, told_place}
use Rattle.format.specs.Record.{Record, read, write}
use Rattle.format.specs.Places.{view_at, count}
use Rattle.format.specs.declared.ViewName.{ViewName}
use Rattle.format.proofs.Laws.Numbers.{record_placed, view_placed, segment_placed}
use Rattle.sheet.specs.Sheet.{sheet_of, read_sheet, writes, reading, writing}
use Rattle.trail.specs.Trail.{trail_in, trailing}
use Rattle.segment.specs.Segment.{payload_in, payload, first_bit_read, segment_answer}
use Rattle.rewrite.specs.Format.{PayloadFormat}
use Rattle.rewrite.specs.Called.{read_in, read_payload, set_in, set_payload}
use Rattle.rewrite.proofs.Laws.PayloadNumbers.{reading_refused, setting_refused}
use Rattle.orders.specs.Order.{Order, verdict, ordered, order}

pub read_place : {before after : List ℕ} {a : Answer} (bytes : List ℕ) → Answers (reading bytes) before after a
    → Placed (8 * length bytes) a.number a.place
unfolding reading
read_place bytes = answer_place (8 * length bytes) (record_placed bytes (λ r. given (sheet_of r)) (λ r. tt))

pub write_place : {before after : List ℕ} {a : Answer} (sheet : List ℕ) → Answers (writing sheet) before after a → a.place ≡ 0
unfolding writing
write_place {before} sheet h = h.place ∙ go (read_sheet sheet)
  where
    go : (o : Read Bool Record) → place_of (room (length before) (writes o)) ≡ 0
    go (C.got r rest) = pick_case (λ (o : Outcome ℕ). place_of o ≡ 0) (leb (length (write r)) (length before)) _ _ (λ t. refl) (λ t. refl)
    go (C.refused e left) = refl

pub trail_place : {B : Type 0} {form : List ℕ → List B} {lent : ℕ} {before after : List B} {a : Answer} (view : ViewName) (line : ℕ) (bytes : List ℕ)
    → AnswersAs form lent (trailing view line bytes) before after a → Placed (8 * length bytes) a.number a.place
unfolding trailing
trail_place view line bytes =
    answer_place (8 * length bytes)
    (view_placed bytes view (trail_in line) λ i r.
    pick_case (Refused (Placed (8 * length bytes))) (ltb line (count (view_at r i))) _ _ (λ t. tt) (λ t. tt))

payload_placed : (view : ViewName) (place : ℕ) (bytes : List ℕ) → Refused (Placed (8 * length bytes)) (payload view place bytes)
unfolding payload
payload_placed view place bytes = segment_placed bytes view place (payload_in place) (λ i r. tt)

pub segment_place : {a : Answer} (view : ViewName) (place : ℕ) (bytes : List ℕ) → a ≡ segment_answer view place bytes → a.number ≢ 0
    → Placed (8 * length bytes) a.number a.place
unfolding segment_answer
segment_place view place bytes e n =
    rw e (told_place (8 * length bytes) (first_bit_read view place (read bytes)) (payload view place bytes) (payload_placed view place bytes) (rw e at n))

pub order_place : (o : Order) (bytes : List ℕ) {before after : List ℕ} {a : Answer} → Answers (order o bytes) before after a
    → Placed (8 * length bytes) a.number a.place
unfolding order
order_place o bytes =
    answer_place (8 * length bytes)
    (view_placed bytes o.view (ordered o) λ i r.
    pick_case (Refused (Placed (8 * length bytes))) (eqb (verdict o i r) 0) _ _ (λ t. tt) (λ t. no_place (8 * length bytes) (verdict o i r)))

-- the two calls on payloads of a format
module _ {A : Type 0} (F : PayloadFormat A) (view : ViewName) (place : ℕ) where
  pub payload_place : (bytes : List ℕ) {B : Type 0} {form : List ℕ → List B} {lent : ℕ} {before after : List B} {a : Answer}
      → AnswersAs form lent (read_payload F view place bytes) before after a → Placed (8 * length bytes) a.number a.place
  unfolding read_payload
  payload_place bytes =
      answer_place (8 * length bytes)
      (segment_placed bytes view place (read_in F place) (reading_refused F (Placed (8 * length bytes)) (no_place (8 * length bytes) F.bad) place))

  pub setting_place : (values bytes : List ℕ) {B : Type 0} {form : List ℕ → List B} {lent : ℕ} {before after : List B} {a : Answer}
      → AnswersAs form lent (set_payload F view place values bytes) before after a → Placed (8 * length bytes) a.number a.place
  unfolding set_payload
  setting_place values bytes =
      answer_place (8 * length bytes)
      (segment_placed bytes view place (set_in F place values) (setting_refused F (Placed (8 * length bytes)) (no_place (8 * length bytes) F.bad) tt place values))
