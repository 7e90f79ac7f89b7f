-- Numbers as bytes, "high byte first": one of 16 bits or of 32, the start of a tagged field, what a list has one behind the other, and
-- the numbers of 16 bits in bytes.
use Rattle.std.specs.Prelude.{ℕ, ◌+◌, ◌*◌, ◌/◌, ◌%◌, List, [], ◌∷◌, ◌++◌}

abbrev pub two : ℕ → List ℕ
two n = n / 256 ∷ n % 256 ∷ []

-- of 32 bits
abbrev pub four : ℕ → List ℕ
four n = two (n / 65536) ++ two (n % 65536)

-- how a field with tag t and n bytes starts
abbrev pub start : ℕ → ℕ → List ℕ
start t n = t ∷ two n

abbrev pub joined : {A : Type 0} → (A → List ℕ) → List A → List ℕ
joined f [] = []
joined f (x ∷ xs) = f x ++ joined f xs

-- two bytes each; a last one by itself is no number
abbrev pub numbers_in : List ℕ → List ℕ
numbers_in [] = []
numbers_in (b ∷ []) = []
numbers_in (b ∷ c ∷ bs) = (b * 256 + c) ∷ numbers_in bs
