-- What becomes of a line that a walk comes to, as code finds it out; and what becomes of the list with it.
use mathlib.Core.Path.{◌≡◌, refl}
use Prim.Native.Nat.{ℕ, ◌-◌}
use mathlib.Core.Bool.{Bool, true, false, not, ◌||◌}
use mathlib.Core.List.{List, ◌∷◌}
use lib.Dec.{T}
use Rattle.bits.specs.Choice.{pick}
use Rattle.bits.specs.ChoiceLaws.{pick_yes, pick_no}
use Rattle.orders.specs.Survive.{elem}
use Rattle.order_removal.specs.Rank.{below}
use Rattle.order_lists.specs.List.{gone, stayed}

-- ---- the line

module _ (rs : List ℕ) (n : ℕ) (stays : Bool) where
  -- the words part it
  pub parted : stays ≡ false → T (gone rs stays n)
  parted e = rw e tt

  -- the removal names it
  pub named : elem n rs ≡ true → T (gone rs stays n)
  named e = rw e (go stays)
    where
      go : (b : Bool) → T (not b || true)
      go true = tt
      go false = tt

-- ---- the list: the line, if the words let it stay, and those behind it

module _ (rs : List ℕ) (n : ℕ) (behind : List ℕ) where
  pub stayed_gone : (stays : Bool) → T (gone rs stays n) → stayed rs (pick stays (n ∷ behind) behind) ≡ stayed rs behind
  stayed_gone true g = pick_yes (elem n rs) _ _ g
  stayed_gone false g = refl

  pub stayed_stays : (stays : Bool) → T (not (gone rs stays n)) → stayed rs (pick stays (n ∷ behind) behind) ≡ (n - below rs n) ∷ stayed rs behind
  stayed_stays true g = pick_no (elem n rs) _ _ g
  stayed_stays false g = absurd g
