-- The places of an answer: where every refusal of an outcome has a place that its number can have, so has every answer by that
-- outcome.
use mathlib.Core.Path.{refl}
use mathlib.Core.Logic.{◌≢◌}
use Prim.Native.Nat.{ℕ}
use native.Mathlib.Omega.{arith}
use mathlib.Core.List.{List}
use lib.Dec.{T, leb, eqb, le→leb}
use Rattle.bits.specs.Choice.{within}
use Rattle.bits.specs.ChoiceLaws.{pick_case}
use Rattle.outcome.specs.Outcome.{Outcome, refused, given, AnswersAs, told}
use Rattle.outcome.specs.Placed.{Placed}
use Rattle.outcome.specs.declared.Answer.{Answer}
use Rattle.outcome.proofs.Refusing.{Refused, refused_answer}

-- every number can have the place 0
pub no_place : (bits number : ℕ) → Placed bits number 0
no_place bits number = pick_case T (within 2 12 number) (leb 0 bits) (eqb 0 0) (λ t. le→leb 0 bits (omega arith)) (λ t. tt)

module _ (bits : ℕ) where
  -- a call that writes
  pub answer_place : {A B : Type 0} {form : List A → List B} {lent : ℕ} {o : Outcome A} {before after : List B} {a : Answer}
      → Refused (Placed bits) o → AnswersAs form lent o before after a → Placed bits a.number a.place
  answer_place = refused_answer (Placed bits) tt tt

  -- a call that says where something stands, where it is refused
  pub told_place : {A : Type 0} (p : ℕ) (o : Outcome A) → Refused (Placed bits) o → (told p o).number ≢ 0
      → Placed bits (told p o).number (told p o).place
  told_place p (refused e q) h n = h
  told_place p (given xs) h n = absurd (n refl)
