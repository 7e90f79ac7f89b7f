-- What the code answers for the number of a rule.
use Rattle.std.specs.Prelude.{ℕ, Some, None}
use Rattle.std.specs.Prelude as std
use Rattle.std.proofs.Math.Option.{Option, none, some}

abbrev pub known_least : std.Option ℕ → Option ℕ
known_least (Some n) = some n
known_least None = none
