-- When the calls on payloads of any format are refused with the format's number: exactly where the segment is there, and has another
-- type, or its payload or what is lent breaks the rules. The number is none of the others that these calls give.
use mathlib.Core.Path.{◌≡◌, refl, sym, ap, ◌∙◌}
use Prim.Native.Nat.{ℕ, ◌≤◌}
use native.Mathlib.Omega.{arith}
use mathlib.Core.Option.{Option, none, some}
use mathlib.Core.List.{List}
use Rattle.bits.specs.ChoiceLaws.{eq_split}
use Rattle.outcome.specs.Refusals.{too_long}
use Rattle.outcome.specs.Outcome.{Outcome, refused, room, number_of, AnswersAs}
use Rattle.outcome.specs.declared.Answer.{Answer}
use Rattle.outcome.proofs.Laws.{not_given, own_number}
use Rattle.format.specs.declared.ViewName.{ViewName}
use Rattle.rewrite.specs.Format.{frame_of, PayloadFormat}
use Rattle.rewrite.specs.Called.{values_given, read_in, read_payload, values_set, set_in, set_payload}
use Rattle.rewrite.specs.Accepted.{its_view, its_segment, BrokenReading, BrokenSetting}
use Rattle.rewrite.proofs.Laws.Record.{rewriting_refused}
use Rattle.rewrite.proofs.Laws.Payload.{there_bytes, own_there, reading_is, reading_gives, setting_is, setting_says, reading_other, setting_other}

none_said : {A : Type 0} (o : Option A) → ((a : A) → o ≡ some a → ⊥) → o ≡ none
none_said none f = refl
none_said (some a) f = absurd (f a refl)

module _ {A : Type 0} (F : PayloadFormat A) (view : ViewName) (place : ℕ) (bytes : List ℕ)
    {B : Type 0} {form : List ℕ → List B} {lent : ℕ} {before after : List B} {a : Answer} where
  module _ (h : AnswersAs form lent (read_payload F view place bytes) before after a) where
    pub reading_broken : 24 ≤ F.bad → a.number ≡ F.bad → BrokenReading F view place bytes
    unfolding read_payload
    reading_broken high z =
        let (p, q) = own_number (λ y. absurd (omega arith)) (λ y. absurd (omega arith)) lent (read_payload F view place bytes) (sym h.number ∙ z) in
        let t = own_there view place (read_in F place) bytes F.bad p high q in
        record { there = t; wrong = λ k v right e. not_given (sym q ∙ reading_gives F t k right e) }

    pub broken_reading : BrokenReading F view place bytes → a.number ≡ F.bad
    broken_reading k =
        let t = k.there in
        let e : read_payload F view place bytes ≡ refused F.bad 0 =
        eq_split (its_segment t).kind F.kind
        (λ y. reading_is F t y
        ∙ ap (values_given F) (none_said (F.says (frame_of (its_view t)) (its_segment t).payload) λ v d.
        let (right, p) = F.back (frame_of (its_view t)) (its_segment t).payload v (there_bytes t) d in k.wrong y v right p))
        (λ y. reading_other F t y) in
        h.number ∙ ap (λ (o : Outcome ℕ). number_of (room lent o)) e

  module _ (values : List ℕ) (h : AnswersAs form lent (set_payload F view place values bytes) before after a) where
    pub setting_broken : 24 ≤ F.bad → a.number ≡ F.bad → BrokenSetting F view place values bytes
    unfolding set_payload
    setting_broken high z =
        let (p, q) = own_number (λ y. absurd (omega arith)) (λ y. absurd (omega arith)) lent (set_payload F view place values bytes) (sym h.number ∙ z) in
        let t = own_there view place (set_in F place values) bytes F.bad p high q in
        record {
          there = t;
          wrong = λ k. none_said (F.lent (frame_of (its_view t)) values) λ v d.
              let y : F.bad ≡ too_long = rewriting_refused t.i place (F.payload (frame_of (its_view t)) v) t.value (sym (setting_says F t k d) ∙ q) in
              absurd (omega arith);
        }

    pub broken_setting : BrokenSetting F view place values bytes → a.number ≡ F.bad
    broken_setting k =
        let t = k.there in
        let e : set_payload F view place values bytes ≡ refused F.bad 0 =
        eq_split (its_segment t).kind F.kind (λ y. setting_is F t y values ∙ ap (values_set F place t.i t.value) (k.wrong y))
        (λ y. setting_other F t y values) in
        h.number ∙ ap (λ (o : Outcome ℕ). number_of (room lent o)) e
