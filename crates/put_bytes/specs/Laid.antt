-- What a writer leaves: its bytes at the start of what it was lent, and the rest as it was.
use Rattle.std.specs.Prelude.{◌≡◌, ℕ, List, ◌++◌, length, drop}

-- n is the writer's answer: how many bytes it wrote
pub record Laid (new before after : List ℕ) (n : ℕ) : Type 0 where
  pub count : n ≡ length new
  pub is : after ≡ new ++ drop (length new) before
