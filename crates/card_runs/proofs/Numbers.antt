-- The numbers and the places of the calls on runs: each refuses with 29 or 20, and neither has a place.
use mathlib.Core.Path.{◌≡◌, refl}
use mathlib.Core.Logic.{◌≢◌}
use Prim.Native.Nat.{ℕ}
use mathlib.Core.List.{List}
use Rattle.bits.specs.ChoiceLaws.{pick_case}
use Rattle.outcome.specs.Refusals.{bad_run}
use Rattle.outcome.specs.Numbers.{Gives, run_numbers}
use Rattle.outcome.specs.Outcome.{Outcome, refused, AnswersAs}
use Rattle.outcome.specs.declared.Answer.{Answer}
use Rattle.outcome.proofs.Refusing.{Refused, refused_map, refused_answer}
use Rattle.outcome.proofs.Numbers.{RefusedBy, answer_number, never_zero}
use Rattle.card_runs.specs.Runs.{lent_ok, low_bytes, restored_ok, from_low_bytes}

-- a refusal is 29, without a place
abbrev pub AsBadRun : Outcome ℕ → Type 0
AsBadRun o = Refused (λ e p. (e ≡ bad_run) × (p ≡ 0)) o

pub low_refusals : (lent : List ℕ) → AsBadRun (low_bytes lent)
unfolding low_bytes
low_refusals lent = pick_case AsBadRun (lent_ok lent) _ _ (λ t. tt) (λ t. (refl, refl))

pub back_refusals : (bytes : List ℕ) → AsBadRun (from_low_bytes bytes)
unfolding from_low_bytes
back_refusals bytes = pick_case AsBadRun (restored_ok bytes) _ _ (λ t. tt) (λ t. (refl, refl))

by_number : (o : Outcome ℕ) → AsBadRun o → RefusedBy run_numbers o
by_number o r = refused_map (λ e p. (e ≡ bad_run) × (p ≡ 0)) _ (λ e p h. rw h.0 tt) o r

-- no refusal has the number 0
pub low_never : (lent : List ℕ) (e p : ℕ) → low_bytes lent ≡ refused e p → e ≢ 0
low_never lent = never_zero run_numbers tt (by_number (low_bytes lent) (low_refusals lent))

pub back_never : (bytes : List ℕ) (e p : ℕ) → from_low_bytes bytes ≡ refused e p → e ≢ 0
back_never bytes = never_zero run_numbers tt (by_number (from_low_bytes bytes) (back_refusals bytes))

-- ---- the answers

module _ {form : List ℕ → List ℕ} {room : ℕ} {before after : List ℕ} {a : Answer} where
  without_place : (o : Outcome ℕ) → AsBadRun o → AnswersAs form room o before after a → a.place ≡ 0
  without_place o r h = refused_answer (λ e p. p ≡ 0) refl refl (refused_map (λ e p. (e ≡ bad_run) × (p ≡ 0)) (λ e p. p ≡ 0) (λ e p k. k.1) o r) h

  pub low_numbers : (lent : List ℕ) → AnswersAs form room (low_bytes lent) before after a → Gives run_numbers a.number
  low_numbers lent = answer_number run_numbers tt (by_number (low_bytes lent) (low_refusals lent))

  pub low_place : (lent : List ℕ) → AnswersAs form room (low_bytes lent) before after a → a.place ≡ 0
  low_place lent = without_place (low_bytes lent) (low_refusals lent)

  pub back_numbers : (bytes : List ℕ) → AnswersAs form room (from_low_bytes bytes) before after a → Gives run_numbers a.number
  back_numbers bytes = answer_number run_numbers tt (by_number (from_low_bytes bytes) (back_refusals bytes))

  pub back_place : (bytes : List ℕ) → AnswersAs form room (from_low_bytes bytes) before after a → a.place ≡ 0
  back_place bytes = without_place (from_low_bytes bytes) (back_refusals bytes)
