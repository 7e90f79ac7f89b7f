-- "In an edited view that has an index, w becomes the least width (at least 1) that holds every count and difference."
use Rattle.std.specs.Prelude.{ℕ, zero, suc, ◌^◌, max, List, [], ◌∷◌, length, ltb}
use Rattle.bits.specs.Choice.{pick}
use Rattle.differences.specs.Differences.{diffs}
use Rattle.format.specs.Index.{Index}

-- the first width from w on, over at most f further ones, that holds m
abbrev pub find : ℕ → ℕ → ℕ → ℕ
find zero w m = w
find (suc f) w m = pick (ltb m (2 ^ w)) w (find f (suc w) m)

abbrev pub max_of : List ℕ → ℕ
max_of [] = 0
max_of (x ∷ xs) = max x (max_of xs)

-- every count, and every list's largest difference, from line l on
abbrev pub numbers_from : ℕ → List (List ℕ) → List ℕ
numbers_from l [] = []
numbers_from l (ns ∷ ls) = length ns ∷ max_of (diffs l ns) ∷ numbers_from (suc l) ls

unfoldable pub least_width : List (List ℕ) → ℕ
least_width ls = find 15 1 (max_of (numbers_from 0 ls))

abbrev pub index_of : List (List ℕ) → Index
index_of ls = record { width = least_width ls; lists = ls }
