-- A direction code as a byte of the sheet. "Codes are two's complement": a code of k bits from 2 to the k - 1 on is negative, 2 to
-- the k less, and its byte is 2 to the 8 more than that.
use Rattle.std.specs.Prelude.{ℕ, ◌+◌, ◌-◌, ◌%◌, ◌^◌, ◌<◌, Bool, ltb, eqb}
use Rattle.bits.specs.Choice.{pick}
use Rattle.bits.specs.Bytes.{Byte}

unfoldable pub sign_extended : ℕ → ℕ → ℕ
sign_extended k n = pick (ltb n (2 ^ (k - 1))) n (n + (2 ^ 8 - 2 ^ k))

-- a byte that is the extension of its lowest k bits
abbrev pub code_ok : ℕ → ℕ → Bool
code_ok k x = eqb (sign_extended k (x % 2 ^ k)) x

-- a code of k bits, and its byte
abbrev pub CodeValue : ℕ → ℕ → Type 0
CodeValue k n = (n < 2 ^ k) × Byte (sign_extended k n)
