-- When the calls on payloads of any format are accepted: their numbers are 0 exactly where the segment is there and of the format's type,
-- its payload or what is lent says right values, and there is room.
use mathlib.Core.Path.{◌≡◌, sym, ap, ◌∙◌}
use Prim.Native.Nat.{ℕ, ◌≤◌}
use native.Mathlib.Omega.{arith}
use mathlib.Core.List.{List}
use lib.ListN.{length}
use Rattle.outcome.specs.Outcome.{AnswersAs}
use Rattle.outcome.specs.declared.Answer.{Answer}
use Rattle.outcome.proofs.Laws.{room_zero, zero_room}
use Rattle.format.specs.declared.ViewName.{ViewName}
use Rattle.format.proofs.Laws.Size.{write_long}
use Rattle.rewrite.specs.Format.{frame_of, PayloadFormat}
use Rattle.rewrite.specs.Called.{read_payload, set_payload}
use Rattle.rewrite.specs.Accepted.{its_view, new_record, AcceptedReading, AcceptedSetting}
use Rattle.rewrite.proofs.Laws.Record.{given_rewriting}
use Rattle.rewrite.proofs.Laws.Payload.{reading_gives, setting_says, read_given, set_given}
use Rattle.rewrite.proofs.Laws.PayloadNumbers.{reading_told, setting_told}

module _ {A : Type 0} (F : PayloadFormat A) (view : ViewName) (place : ℕ) (bytes : List ℕ)
    {B : Type 0} {form : List ℕ → List B} {lent : ℕ} {before after : List B} {a : Answer} where
  module _ (h : AnswersAs form lent (read_payload F view place bytes) before after a) where
    pub reading_accepted : 24 ≤ F.bad → a.number ≡ 0 → AcceptedReading F view place bytes lent
    reading_accepted high z =
        room_zero lent (reading_told F high view place bytes) (sym h.number ∙ z) λ xs q l.
        read_given F view place bytes xs q λ t v k right p e.
        record { there = t; kind = k; value = v; right = right; payload = p; room = omega (arith, l, ap length e) }

    pub accepted_reading : AcceptedReading F view place bytes lent → a.number ≡ 0
    accepted_reading k = h.number ∙ zero_room lent (reading_gives F k.there k.kind k.right k.payload) k.room

  module _ (values : List ℕ) (h : AnswersAs form lent (set_payload F view place values bytes) before after a) where
    pub setting_accepted : 24 ≤ F.bad → a.number ≡ 0 → AcceptedSetting F view place values bytes lent
    setting_accepted high z =
        room_zero lent (setting_told F high view place values bytes) (sym h.number ∙ z) λ new q l.
        set_given F view place values bytes new q λ t v k e ok w.
        record { there = t; kind = k; value = v; says = e; small = ok.small; room = omega (arith, l, ap length w, write_long (new_record F t v)) }

    pub accepted_setting : AcceptedSetting F view place values bytes lent → a.number ≡ 0
    accepted_setting k =
        let t = k.there in
        h.number
        ∙ zero_room lent (setting_says F t k.kind k.says ∙ given_rewriting t.i place (F.payload (frame_of (its_view t)) k.value) t.value k.small)
        (omega (arith, k.room, write_long (new_record F t k.value)))
