-- The numbers of the calls on payloads of any format, and what holds of every refusal of their own: the format's number, and 19 where a
-- record is rewritten, without a place.
use mathlib.Core.Path.{◌≡◌}
use mathlib.Core.Logic.{◌≢◌}
use Prim.Native.Nat.{ℕ, ◌≤◌}
use native.Mathlib.Omega.{arith}
use mathlib.Core.Option.{Option, none, some}
use mathlib.Core.List.{List, [], ◌∷◌}
use lib.Dec.{T, eqb, leb}
use Rattle.bits.specs.ChoiceLaws.{pick_case}
use Rattle.outcome.specs.Refusals.{too_long, no_room, no_segment}
use Rattle.outcome.specs.Numbers.{among, Gives}
use Rattle.outcome.specs.Outcome.{refused, AnswersAs}
use Rattle.outcome.specs.declared.Answer.{Answer}
use Rattle.outcome.proofs.Refusing.{Refused}
use Rattle.outcome.proofs.Numbers.{RefusedBy, among_first, answer_number, never_zero}
use Rattle.format.specs.Limits.{most_bytes}
use Rattle.format.specs.Record.{Record, size}
use Rattle.format.specs.Places.{view_at, segment_at}
use Rattle.format.specs.declared.ViewName.{ViewName}
use Rattle.format.proofs.Laws.Numbers.{segment_numbers_lem}
use Rattle.rewrite.specs.Rewrite.{rewritten, rewriting}
use Rattle.rewrite.specs.Format.{frame_of, PayloadFormat}
use Rattle.rewrite.specs.Called.{values_given, read_in, read_payload, values_set, set_in, set_payload}

module _ {A : Type 0} (F : PayloadFormat A) where
  -- ---- their own refusals

  module _ (P : ℕ → ℕ → Type 0) (q : P F.bad 0) where
    given_refused : (o : Option A) → Refused P (values_given F o)
    given_refused none = q
    given_refused (some a) = tt

    set_refused : P too_long 0 → (place i : ℕ) (r : Record) (o : Option A) → Refused P (values_set F place i r o)
    unfolding rewriting
    set_refused l place i r none = q
    set_refused l place i r (some a) =
        pick_case (Refused P) (leb (size (rewritten i place (F.payload (frame_of (view_at r i)) a) r)) most_bytes) _ _ (λ t. tt) (λ t. l)

    pub reading_refused : (place i : ℕ) (r : Record) → Refused P (read_in F place i r)
    reading_refused place i r =
        pick_case (Refused P) (eqb (segment_at (view_at r i) place).kind F.kind) _ _
        (λ t. given_refused (F.says (frame_of (view_at r i)) (segment_at (view_at r i) place).payload)) (λ t. q)

    pub setting_refused : P too_long 0 → (place : ℕ) (values : List ℕ) (i : ℕ) (r : Record) → Refused P (set_in F place values i r)
    setting_refused l place values i r =
        pick_case (Refused P) (eqb (segment_at (view_at r i) place).kind F.kind) _ _
        (λ t. set_refused l place i r (F.lent (frame_of (view_at r i)) values)) (λ t. q)

  -- ---- the calls

  module _ (ranges : List (ℕ × ℕ)) (own : (e : ℕ) → 1 ≤ e → e ≤ 13 → T (among ranges e)) (none : T (among ranges no_segment)) (bad : T (among ranges F.bad))
      (view : ViewName) (place : ℕ) where
    reading_by : (bytes : List ℕ) → RefusedBy ranges (read_payload F view place bytes)
    unfolding read_payload
    reading_by = segment_numbers_lem ranges own none view place (read_in F place) (reading_refused (λ e p. T (among ranges e)) bad place)

    setting_by : T (among ranges too_long) → (values bytes : List ℕ) → RefusedBy ranges (set_payload F view place values bytes)
    unfolding set_payload
    setting_by l values = segment_numbers_lem ranges own none view place (set_in F place values) (setting_refused (λ e p. T (among ranges e)) bad l place values)

  -- the list of a call's numbers starts with 1 to 13, as that of every call on a view; the other ones stand behind
  module _ (others : List (ℕ × ℕ)) (none : T (among ((1, 13) ∷ others) no_segment)) (full : T (among ((1, 13) ∷ others) no_room))
      (bad : T (among ((1, 13) ∷ others) F.bad)) (view : ViewName) (place : ℕ) where
    abbrev ranges : List (ℕ × ℕ)
    ranges = (1, 13) ∷ others

    pub reading_numbers : (bytes : List ℕ) {B : Type 0} {form : List ℕ → List B} {lent : ℕ} {before after : List B} {a : Answer}
        → AnswersAs form lent (read_payload F view place bytes) before after a → Gives ((1, 13) ∷ others) a.number
    reading_numbers bytes = answer_number ranges full (reading_by ranges (among_first 1 13 others) none bad view place bytes)

    pub setting_numbers : T (among ((1, 13) ∷ others) too_long) → (values bytes : List ℕ) {B : Type 0} {form : List ℕ → List B} {lent : ℕ}
        {before after : List B} {a : Answer} → AnswersAs form lent (set_payload F view place values bytes) before after a → Gives ((1, 13) ∷ others) a.number
    setting_numbers l values bytes = answer_number ranges full (setting_by ranges (among_first 1 13 others) none bad view place l values bytes)

  -- no refusal has the number 0: all are between 1 and the format's, which is above those of every call on a segment
  module _ (high : 24 ≤ F.bad) (view : ViewName) (place : ℕ) where
    abbrev below : List (ℕ × ℕ)
    below = (1, F.bad) ∷ []

    stands : (e : ℕ) → 1 ≤ e → e ≤ F.bad → T (among below e)
    stands = among_first 1 F.bad []

    pub reading_told : (bytes : List ℕ) (e p : ℕ) → read_payload F view place bytes ≡ refused e p → e ≢ 0
    reading_told bytes =
        never_zero below tt
        (reading_by below (λ e l k. stands e l (omega arith)) (stands no_segment (omega arith) (omega arith)) (stands F.bad (omega arith) (omega arith)) view place bytes)

    pub setting_told : (values bytes : List ℕ) (e p : ℕ) → set_payload F view place values bytes ≡ refused e p → e ≢ 0
    setting_told values bytes =
        never_zero below tt
        (setting_by below (λ e l k. stands e l (omega arith)) (stands no_segment (omega arith) (omega arith)) (stands F.bad (omega arith) (omega arith)) view place
        (stands too_long (omega arith) (omega arith)) values bytes)
