-- The numbers of an answer: where every refusal of an outcome has one of some numbers, and 20 is one of them, every answer by that
-- outcome gives 0 or one of them.
use mathlib.Core.Path.{◌≡◌, subst}
use mathlib.Core.Logic.{◌≢◌}
use Prim.Native.Nat.{ℕ, ◌≤◌}
use mathlib.Core.Bool.{Bool, true, false, not, ◌||◌}
use mathlib.Core.List.{List, ◌∷◌}
use lib.Dec.{T, eqb}
use mir.Facts.{T_not}
use Rattle.bits.specs.Choice.{within}
use Rattle.bits.specs.ChoiceLaws.{within_yes}
use Rattle.outcome.specs.Refusals.{no_room}
use Rattle.outcome.specs.Numbers.{among, Gives}
use Rattle.outcome.specs.Outcome.{Outcome, refused, given, room, number_of, AnswersAs, told}
use Rattle.outcome.specs.declared.Answer.{Answer}
use Rattle.outcome.proofs.Refusing.{Refused, room_refused}

or_first : (a b : Bool) → T a → T (a || b)
or_first true b t = tt
or_first false b t = absurd t

or_second : (a b : Bool) → T b → T (a || b)
or_second true b t = tt
or_second false b t = t

-- a number of the first range
pub among_first : (low high : ℕ) (ranges : List (ℕ × ℕ)) (n : ℕ) → low ≤ n → n ≤ high → T (among ((low, high) ∷ ranges) n)
among_first low high ranges n l h = or_first (within low high n) _ (within_yes low high n l h)

-- every refusal has one of the numbers
abbrev pub RefusedBy : {A : Type 0} → List (ℕ × ℕ) → Outcome A → Type 0
RefusedBy ranges o = Refused (λ e p. T (among ranges e)) o

module _ (ranges : List (ℕ × ℕ)) where
  gives : {A : Type 0} (o : Outcome A) → RefusedBy ranges o → Gives ranges (number_of o)
  gives (refused e p) h = or_second (eqb e 0) _ h
  gives (given xs) h = tt

  pub room_by : {A : Type 0} → T (among ranges no_room) → (n : ℕ) (o : Outcome A) → RefusedBy ranges o → RefusedBy ranges (room n o)
  room_by t n o h = room_refused (λ e p. T (among ranges e)) t n o h

  -- a call that writes
  pub answer_number : {A B : Type 0} {form : List A → List B} {lent : ℕ} {o : Outcome A} {before after : List B} {a : Answer}
      → T (among ranges no_room) → RefusedBy ranges o → AnswersAs form lent o before after a → Gives ranges a.number
  answer_number {lent = lent} {o = o} t h k = rw k.number (gives (room lent o) (room_by t lent o h))

  -- a call that says where something stands
  pub told_number : {A : Type 0} (p : ℕ) (o : Outcome A) → RefusedBy ranges o → Gives ranges (told p o).number
  told_number p (refused e q) h = or_second (eqb e 0) _ h
  told_number p (given xs) h = tt

  -- no refusal has the number 0
  pub not_zero : T (not (among ranges 0)) → (e : ℕ) → T (among ranges e) → e ≢ 0
  not_zero t e h z = T_not (among ranges 0) (rw z at h) t

  pub never_zero : {A : Type 0} {o : Outcome A} → T (not (among ranges 0)) → RefusedBy ranges o → (e p : ℕ) → o ≡ refused e p → e ≢ 0
  never_zero t h e p q = not_zero t e (subst (RefusedBy ranges) q h)
