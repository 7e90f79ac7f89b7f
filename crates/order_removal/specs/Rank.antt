-- What looking up a line in a removal list asks and answers. A line that stays is renumbered by how many lines of the list are
-- before it.
use Rattle.std.specs.Prelude.{◌≡◌, ℕ, suc, ◌*◌, List, [], ◌∷◌, length, ltb, Result, MatchResult}
use Rattle.std.specs.Result.{is_ok}
use Rattle.bits.specs.Choice.{pick}
use Rattle.orders.specs.Survive.{elem, RisesFrom}
use Rattle.orders.specs.Listed.{removal_lines}

-- how many of the numbers are below n
abbrev pub below : List ℕ → ℕ → ℕ
below [] n = 0
below (r ∷ rs) n = pick (ltb r n) (suc (below rs n)) (below rs n)

-- the removal's bytes are a list that rises
pub record Rising (removal : List ℕ) : Type 0 where
  pub even : length removal ≡ 2 * length (removal_lines removal)
  pub rises : RisesFrom 0 (removal_lines removal)

-- a line that is gone is found, at its place in the list; of one that stays it is said how many are before it
pub record Ranked (rs : List ℕ) (n : ℕ) (r : Result ℕ ℕ) : Type 0 where
  pub below : MatchResult r (λ k. k ≡ below rs n) (λ k. k ≡ below rs n)
  pub gone : is_ok r ≡ elem n rs
