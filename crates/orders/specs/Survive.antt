-- Survivors of a removal: "Survivors are renumbered; a removed line leaves all lists." A removal goes by the survivors' old
-- numbers, a rising list; a survivor's new number is its place in that list.
use Rattle.std.specs.Prelude.{ℕ, zero, suc, ◌≤◌, Bool, false, ◌||◌, List, [], ◌∷◌, get_or, eqb}
use Rattle.std.proofs.Math.Option.{Option, none, some, map}
use Rattle.bits.specs.Choice.{pick}

abbrev pub elem : ℕ → List ℕ → Bool
elem x [] = false
elem x (y ∷ ys) = eqb x y || elem x ys

abbrev pub at : List ℕ → ℕ → ℕ
at xs p = get_or xs p 0

-- i, i + 1, .. : n numbers
abbrev pub up_from : ℕ → ℕ → List ℕ
up_from i zero = []
up_from i (suc n) = i ∷ up_from (suc i) n

abbrev pub without : List ℕ → List ℕ → List ℕ
without rs [] = []
without rs (i ∷ is) = pick (elem i rs) (without rs is) (i ∷ without rs is)

-- of n lines, those that a removal of rs leaves
abbrev pub survivors : ℕ → List ℕ → List ℕ
survivors n rs = without rs (up_from 0 n)

-- the new number of line n
abbrev pub place : List ℕ → ℕ → Option ℕ
place [] n = none
place (k ∷ ks) n = pick (eqb k n) (some 0) (map (λ i. suc i) (place ks n))

abbrev pub cons? : Option ℕ → List ℕ → List ℕ
cons? none xs = xs
cons? (some x) xs = x ∷ xs

-- a list of neighbours after a removal that leaves ks: those that stay, by their new numbers
abbrev pub renumber : List ℕ → List ℕ → List ℕ
renumber ks [] = []
renumber ks (n ∷ ns) = cons? (place ks n) (renumber ks ns)

-- rising, the first at least m
abbrev pub RisesFrom : ℕ → List ℕ → Type 0
RisesFrom m [] = Unit {0}
RisesFrom m (x ∷ xs) = (m ≤ x) × RisesFrom (suc x) xs
