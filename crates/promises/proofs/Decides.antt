-- What decides a refusal 2 to 12, of each call on a record: each refuses with these where the record is refused, and has other
-- numbers of its own.
use mathlib.Core.Path.{◌≡◌, refl, sym, ap, subst, ◌∙◌}
use Prim.Native.Nat.{ℕ, ◌+◌, ◌-◌, ◌*◌, ◌≤◌}
use native.Mathlib.Omega.{arith}
use mathlib.Core.Bool.{Bool, not}
use mathlib.Core.Option.{Option, none, some}
use mathlib.Core.List.{List, []}
use lib.ListN.{length}
use lib.Dec.{T, ltb, eqb}
use mir.Facts.{eqb_no}
use Rattle.bits.specs.Choice.{within}
use Rattle.bits.specs.ChoiceLaws.{pick_case, within_high, within_not_high}
use Rattle.bits.specs.Codec.{Read}
use Rattle.bits.specs.Codec as C
use Rattle.outcome.specs.Refusals.{bad_object}
use Rattle.outcome.specs.Outcome.{Outcome, refused, given, room, number_of, AnswersAs, Answers}
use Rattle.outcome.specs.declared.Answer.{Answer}
use Rattle.format.specs.Record.{Record, read}
use Rattle.format.specs.Call.{from_read, on_record, in_view, on_view, in_segment, on_segment}
use Rattle.format.specs.Places.{view_at, count}
use Rattle.format.specs.Named.{place_in}
use Rattle.format.specs.declared.Scale.{Scale}
use Rattle.format.specs.declared.ViewName.{ViewName}
use Rattle.format.proofs.Laws.Record.{read_is}
use Rattle.places.specs.Reach.{reach, Agree, AnsweredAlike}
use Rattle.places.proofs.Laws.Calls.{Other, Own, Shows, answer_shows, told_shows, answered_alike}
use Rattle.sheet.specs.Sheet.{sheet_of, reading}
use Rattle.trail.specs.Trail.{trail_in, trailing}
use Rattle.segment.specs.Segment.{payload_in, payload, first_bit_read, segment_answer}
use Rattle.rewrite.specs.Format.{PayloadFormat}
use Rattle.rewrite.specs.Called.{read_in, read_payload, set_in, set_payload}
use Rattle.rewrite.proofs.Laws.PayloadNumbers.{reading_refused, setting_refused}
use Rattle.card.specs.Size.{scale_of, same_scale}
use Rattle.card.specs.Card.{object_given, card_write}
use Rattle.card.proofs.Laws.Calls as CardCalls
use Rattle.orders.specs.Order.{Order, verdict, ordered, order}
use Rattle.orders.specs.Pairs.{PairsCall, pairs_call, pairs}
use Rattle.orders.proofs.Laws.Numbers.{verdict_above}
use Rattle.orders.proofs.Laws.Pairs.{unread, pairs_view}
use Rattle.orders.proofs.Laws.PairsNumbers.{pairs_own}

-- a call on a view
view_alike : {A : Type 0} (view : ViewName) (f : ℕ → Record → Outcome A) → ((i : ℕ) (r : Record) → Own (f i r)) → (a b : List ℕ) {x y : Answer}
    → Shows (on_view view f a) x → Shows (on_view view f b) y → T (within 2 12 x.number) → Agree (x.place + reach x.number) a b → AnsweredAlike x y
unfolding on_view
view_alike view f own =
    answered_alike (in_view view f) λ r.
    let i : ℕ = place_in view r.views in
    pick_case Own (ltb i (length r.views)) _ _ (λ t. own i r) (λ t. tt)

-- on a segment
segment_alike : {A : Type 0} (view : ViewName) (place : ℕ) (f : ℕ → Record → Outcome A) → ((i : ℕ) (r : Record) → Own (f i r)) → (a b : List ℕ) {x y : Answer}
    → Shows (on_segment view place f a) x → Shows (on_segment view place f b) y → T (within 2 12 x.number) → Agree (x.place + reach x.number) a b
    → AnsweredAlike x y
unfolding on_segment
segment_alike view place f own =
    view_alike view (in_segment place f) λ i r. pick_case Own (ltb place (length (view_at r i).segments)) _ _ (λ t. own i r) (λ t. tt)

pub read_decided : (a b : List ℕ) {before after before₂ after₂ : List ℕ} {x y : Answer} → Answers (reading a) before after x → Answers (reading b) before₂ after₂ y
    → T (within 2 12 x.number) → Agree (x.place + reach x.number) a b → AnsweredAlike x y
unfolding reading
read_decided a b h k = answered_alike (λ r. given (sheet_of r)) (λ r. tt) a b (answer_shows h) (answer_shows k)

pub trail_decided : {B : Type 0} {form : List ℕ → List B} {lent lent₂ : ℕ} {before after before₂ after₂ : List B} {x y : Answer} (view : ViewName) (line : ℕ) (a b : List ℕ)
    → AnswersAs form lent (trailing view line a) before after x → AnswersAs form lent₂ (trailing view line b) before₂ after₂ y
    → T (within 2 12 x.number) → Agree (x.place + reach x.number) a b → AnsweredAlike x y
unfolding trailing
trail_decided view line a b h k =
    view_alike view (trail_in line) (λ i r. pick_case Own (ltb line (count (view_at r i))) _ _ (λ t. tt) (λ t. tt)) a b (answer_shows h) (answer_shows k)

pub segment_decided : (view : ViewName) (place : ℕ) (a b : List ℕ) {x y : Answer} → x ≡ segment_answer view place a → y ≡ segment_answer view place b
    → T (within 2 12 x.number) → Agree (x.place + reach x.number) a b → AnsweredAlike x y
unfolding segment_answer payload
segment_decided view place a b h k =
    segment_alike view place (payload_in place) (λ i r. tt) a b
    (told_shows (first_bit_read view place (read a)) (payload view place a) h) (told_shows (first_bit_read view place (read b)) (payload view place b) k)

pub order_decided : (o : Order) (a b : List ℕ) {before after before₂ after₂ : List ℕ} {x y : Answer} → Answers (order o a) before after x
    → Answers (order o b) before₂ after₂ y → T (within 2 12 x.number) → Agree (x.place + reach x.number) a b → AnsweredAlike x y
unfolding order
order_decided o a b h k =
    view_alike o.view (ordered o) (λ i r. pick_case Own (eqb (verdict o i r) 0) _ _ (λ t. tt) (λ t. verdict_above o i r (eqb_no t))) a b
    (answer_shows h) (answer_shows k)

-- the two calls on payloads of a format, whose number is above 12
module _ {A : Type 0} (F : PayloadFormat A) (high : 24 ≤ F.bad) (view : ViewName) (place : ℕ) where
  other : T (not (within 2 12 F.bad))
  other = within_not_high 2 12 F.bad (omega arith)

  pub payload_decided : (a b : List ℕ) {B : Type 0} {form : List ℕ → List B} {lent lent₂ : ℕ} {before after before₂ after₂ : List B} {x y : Answer}
      → AnswersAs form lent (read_payload F view place a) before after x → AnswersAs form lent₂ (read_payload F view place b) before₂ after₂ y
      → T (within 2 12 x.number) → Agree (x.place + reach x.number) a b → AnsweredAlike x y
  unfolding read_payload
  payload_decided a b h k =
      segment_alike view place (read_in F place) (reading_refused F Other other place) a b (answer_shows h) (answer_shows k)

  pub setting_decided : (values a b : List ℕ) {B : Type 0} {form : List ℕ → List B} {lent lent₂ : ℕ} {before after before₂ after₂ : List B} {x y : Answer}
      → AnswersAs form lent (set_payload F view place values a) before after x → AnswersAs form lent₂ (set_payload F view place values b) before₂ after₂ y
      → T (within 2 12 x.number) → Agree (x.place + reach x.number) a b → AnsweredAlike x y
  unfolding set_payload
  setting_decided values a b h k =
      segment_alike view place (set_in F place values) (setting_refused F Other other tt place values) a b (answer_shows h) (answer_shows k)

-- ---- a list of pairs

-- The call goes by the bytes again where it gives its orders, so that it is no function of the record alone; but of the record's
-- refusals it shows what any call does.
abbrev judged : Record → Outcome ℕ
judged r = given []

module _ (m : PairsCall) (bytes : List ℕ) {before after : List ℕ} {x : Answer} (h : Answers (pairs m bytes) before after x) where
  on_refused : (e left : ℕ) → read bytes ≡ C.refused e left → Shows (on_record judged bytes) x
  unfolding on_record
  on_refused e left q =
      let place : ℕ = 8 * length bytes - left in
      let d : on_record judged bytes ≡ refused e place = ap (from_read (8 * length bytes) judged) q in
      let (i, j) = (answer_shows h).refusal e place (pairs_view m bytes (λ f. unread m.view f bytes q)) in
      record {
        refusal = λ n p z. let y : ◌≡◌ {A = Outcome ℕ} (refused e place) (refused n p) = sym d ∙ z in
            let u : e ≡ n = cc in
            let v : place ≡ p = cc in
            (i ∙ u, j ∙ v);
        own = λ k. rw i (subst Own d k);
      }

  on_read : (r : Record) → read bytes ≡ C.got r [] → Shows (on_record judged bytes) x
  unfolding on_record
  on_read r q =
      let d : on_record judged bytes ≡ given [] = ap (from_read (8 * length bytes) judged) q in
      record {
        refusal = λ n p z. let y : ◌≡◌ {A = Outcome ℕ} (given []) (refused n p) = sym d ∙ z in
            let w : ◌≡◌ {A = ℕ} 0 1 = cc in
            absurd (omega arith);
        own = λ k. (answer_shows h).own (pairs_own m bytes r q);
      }

  pairs_shows : Shows (on_record judged bytes) x
  pairs_shows = go (read bytes) refl
    where
      go : (o : Read Bool Record) → read bytes ≡ o → Shows (on_record judged bytes) x
      go (C.got r rest) q = on_read r (q ∙ ap (C.got r) (read_is bytes r rest q).3)
      go (C.refused e left) q = on_refused e left q

pub pairs_decided : (view : ViewName) (n : ℕ) (orders a b : List ℕ) {before after before₂ after₂ : List ℕ} {x y : Answer}
    → Answers (pairs (pairs_call view n orders before) a) before after x
    → Answers (pairs (pairs_call view n orders before₂) b) before₂ after₂ y → T (within 2 12 x.number) → Agree (x.place + reach x.number) a b → AnsweredAlike x y
pairs_decided view n orders a b {before} {before₂ = before₂} h k =
    answered_alike judged (λ r. tt) a b (pairs_shows (pairs_call view n orders before) a h)
    (pairs_shows (pairs_call view n orders before₂) b k)

-- a view's object at a size
pub card_decided : (size_number : ℕ) (view : ViewName) (a b : List ℕ) {before after before₂ after₂ : List ℕ} {x y : Answer}
    → Answers (card_write size_number view a) before after x → Answers (card_write size_number view b) before₂ after₂ y
    → T (within 2 12 x.number) → Agree (x.place + reach x.number) a b → AnsweredAlike x y
card_decided size_number view a b {before} {after} {before₂} {after₂} {x} {y} h k = sized (scale_of size_number) refl
  where
    sized : (o : Option Scale) → scale_of size_number ≡ o → T (within 2 12 x.number) → Agree (x.place + reach x.number) a b → AnsweredAlike x y
    sized none e = λ t.
        let n : x.number ≡ bad_object = h.number ∙ ap (λ (o : Outcome ℕ). number_of (room (length before) o)) (CardCalls.write_none size_number view a e) in
        absurd (omega (arith, n, within_high 2 12 x.number t))
    sized (some scale) e =
        view_alike view (object_given scale) (λ i r. pick_case Own (same_scale r.head.scale scale) _ _ (λ t. tt) (λ t. tt)) a b
        (answer_shows (subst (λ (o : Outcome ℕ). Answers o before after x) (CardCalls.write_in size_number e view a) h))
        (answer_shows (subst (λ (o : Outcome ℕ). Answers o before₂ after₂ y) (CardCalls.write_in size_number e view b) k))
