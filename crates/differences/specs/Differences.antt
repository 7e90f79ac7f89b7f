-- Neighbours as differences: "For line L the differences are L minus its first neighbour, first minus second, and so on. The first
-- may be 0, a line next to itself; the others are at least 1; their sum is at most L."
use Rattle.std.specs.Prelude.{ℕ, ◌+◌, ◌-◌, ◌≤◌, Bool, List, [], ◌∷◌}
use Rattle.bits.specs.Codec.{Codec}
use Rattle.bits.specs.CodecLaws.{ranged}
use Rattle.outcome.specs.Refusals.{bad_index}

-- the first at most l - m, each other below the one before
abbrev pub Falls : ℕ → ℕ → List ℕ → Type 0
Falls m l [] = Unit {0}
Falls m l (n ∷ ns) = (n + m ≤ l) × Falls 1 n ns

-- L minus the first, first minus second, and so on
abbrev pub diffs : ℕ → List ℕ → List ℕ
diffs l [] = []
diffs l (n ∷ ns) = (l - n) ∷ diffs n ns

abbrev pub undiffs : ℕ → List ℕ → List ℕ
undiffs l [] = []
undiffs l (d ∷ ds) = (l - d) ∷ undiffs (l - d) ds

-- a difference: at least i .0, at most i .1
abbrev pub diff : ℕ → ℕ × ℕ → Codec Bool ℕ
diff w i = ranged bad_index w i.0 i.1

-- the first may be 0; those behind it are at least 1; what is left of L is what their sum may still be
abbrev pub tell_difference : ℕ × ℕ → ℕ → ℕ × ℕ
tell_difference i d = (1, i.1 - d)
