-- A run of fields with one tag, as it stands in a sheet: those of the lines, of the neighbour lists, of the segments. What follows
-- it starts with another tag, or nothing follows.
use Rattle.std.specs.Prelude.{◌≡◌, ◌≢◌, ℕ, ◌<◌, List, [], ◌∷◌, ◌++◌, length, drop}
use Rattle.bits.specs.Lists.{All}
use Rattle.put_bytes.specs.HighFirst.{start, joined}

abbrev pub Other : ℕ → List ℕ → Type 0
Other t [] = Unit {0}
Other t (b ∷ bs) = b ≢ t

-- a field with tag t; value is what it holds of x
abbrev pub field_of : {A : Type 0} → ℕ → (A → List ℕ) → A → List ℕ
field_of t value x = start t (length (value x)) ++ value x

-- the fields of xs stand in the sheet s from byte a on
pub record RunAt {A : Type 0} (t : ℕ) (value : A → List ℕ) (s : List ℕ) (a : ℕ) (xs : List A) (rest : List ℕ) : Type 0 where
  pub is : drop a s ≡ joined (field_of t value) xs ++ rest
  pub small : All (λ x. length (value x) < 65536) xs
  pub other : Other t rest
