-- Choosing by a test: `pick` is the library's "if".
use Rattle.std.specs.Prelude.{ℕ, Bool, true, false, ◌&&◌, leb}
use Rattle.std.proofs.Math.Option.{Option, none, some}

abbrev pub pick : {A : Type 0} → Bool → A → A → A
pick true x y = x
pick false x y = y

-- from low to high
abbrev pub within : ℕ → ℕ → ℕ → Bool
within low high n = leb low n && leb n high

abbrev pub some? : {A : Type 0} → Option A → Bool
some? none = false
some? (some a) = true
