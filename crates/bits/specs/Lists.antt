-- What holds of every element of a list, alone (`All`) or by what the elements before it say (`Along`); tests over a list, and sums.
use Rattle.std.specs.Prelude.{ℕ, ◌+◌, Bool, true, false, ◌&&◌, List, [], ◌∷◌}

abbrev pub All : {A : Type 0} → (A → Type 0) → List A → Type 0
All P [] = Unit {0}
All P (x ∷ xs) = P x × All P xs

-- i is what the elements before say; m tells it one more
abbrev pub Along : {I A : Type 0} → (I → A → I) → (I → A → Type 0) → I → List A → Type 0
Along m P i [] = Unit {0}
Along m P i (x ∷ xs) = P i x × Along m P (m i x) xs

abbrev pub every : {A : Type 0} → (A → Bool) → List A → Bool
every t [] = true
every t (x ∷ xs) = t x && every t xs

-- a list of tests, all passed
abbrev pub all_true : List Bool → Bool
all_true ts = every (λ t. t) ts

abbrev pub empty? : {A : Type 0} → List A → Bool
empty? [] = true
empty? (x ∷ xs) = false

abbrev pub total : {A : Type 0} → (A → ℕ) → List A → ℕ
total f [] = 0
total f (x ∷ xs) = f x + total f xs
