-- Demand 2, of calls that are made one behind the other, by their contracts.
use mathlib.Core.Path.{◌≡◌, ap, ◌∙◌}
use Prim.Native.Nat.{ℕ, ◌-◌, ◌≤◌}
use native.Mathlib.Omega.{arith}
use mathlib.Core.Logic.{◌≢◌}
use mathlib.Core.List.{List}
use lib.ListN.{length, take, drop}
use Rattle.outcome.specs.Outcome.{Outcome, given, Answers, Gave}
use Rattle.outcome.specs.declared.Answer.{Answer}
use Rattle.outcome.proofs.Laws.{answer_there}

-- o is the first call's outcome, f the second's, of the bytes xs that the first one gave; with these it gives ys
module _ {o : Outcome ℕ} (f : List ℕ → Outcome ℕ) (ys : List ℕ) (back : (xs : List ℕ) → o ≡ given xs → f xs ≡ given ys)
    {before after : List ℕ} {a : Answer} (h : Answers o before after a) (xs : List ℕ) (q : o ≡ given xs) (l : length xs ≤ length before) where
  pub first_accepts : {P : Type 0} → a.number ≢ 0 → P
  first_accepts n = absurd (n (answer_there h xs q l).0)

  lent : take (a.length - 0) (drop 0 after) ≡ xs
  lent = let z : a.length - 0 ≡ a.length = omega arith in rw z (answer_there h xs q l).2

  pub second_gives : {before₂ after₂ : List ℕ} {b : Answer} → Answers (f (take (a.length - 0) (drop 0 after))) before₂ after₂ b
      → length ys ≤ length before₂ → Gave ys after₂ b
  second_gives k m = answer_there k ys (ap f lent ∙ back xs q) m
