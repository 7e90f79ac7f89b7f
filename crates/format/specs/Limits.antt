-- The limits of a record.
use Rattle.std.specs.Prelude.{ℕ}

-- "At most 1,024 lines."
unfoldable pub most_lines : ℕ
most_lines = 1024

-- "A record has 24 to 32,768 bytes."
unfoldable pub least_bytes : ℕ
least_bytes = 24

unfoldable pub most_bytes : ℕ
most_bytes = 32768
