-- The numbers of the call for a trail, as 16-bit numbers or as bytes: 1 to 13, 15 and 20.
use Prim.Native.Nat.{ℕ}
use mathlib.Core.List.{List}
use lib.ListN.{drop}
use lib.Dec.{ltb}
use Rattle.bits.specs.ChoiceLaws.{pick_case}
use Rattle.outcome.specs.Numbers.{Gives, trail_numbers}
use Rattle.outcome.specs.Outcome.{AnswersAs}
use Rattle.outcome.specs.declared.Answer.{Answer}
use Rattle.outcome.proofs.Numbers.{RefusedBy, among_first, answer_number}
use Rattle.format.specs.Places.{view_at, count}
use Rattle.format.specs.declared.ViewName.{ViewName}
use Rattle.format.proofs.Laws.Numbers.{view_numbers}
use Rattle.trail.specs.Trail.{trail_in, trailing}

trailing_by : (view : ViewName) (line : ℕ) (bytes : List ℕ) → RefusedBy trail_numbers (trailing view line bytes)
unfolding trailing
trailing_by view line =
    view_numbers trail_numbers (among_first 1 13 (drop 1 trail_numbers)) view (trail_in line) λ i r.
    pick_case (RefusedBy trail_numbers) (ltb line (count (view_at r i))) _ _ (λ t. tt) (λ t. tt)

pub trailing_numbers : {B : Type 0} {form : List ℕ → List B} {lent : ℕ} {before after : List B} {a : Answer} (view : ViewName) (line : ℕ) (bytes : List ℕ)
    → AnswersAs form lent (trailing view line bytes) before after a → Gives trail_numbers a.number
trailing_numbers view line bytes = answer_number trail_numbers tt (trailing_by view line bytes)
