-- What a removal leaves of values that there is one of for each line.
use Rattle.std.specs.Prelude.{ℕ, suc, List, [], ◌∷◌}
use Rattle.bits.specs.Choice.{pick}
use Rattle.orders.specs.Survive.{elem}

-- of the values of the lines from l on, those whose line the removal of rs leaves; g says what becomes of a line's value
abbrev pub kept : {A B : Type 0} → (ℕ → A → B) → List ℕ → ℕ → List A → List B
kept g rs l [] = []
kept g rs l (x ∷ xs) = pick (elem l rs) (kept g rs (suc l) xs) (g l x ∷ kept g rs (suc l) xs)
