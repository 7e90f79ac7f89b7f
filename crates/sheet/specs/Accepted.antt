-- When the calls of the sheet are accepted: their numbers are 0 exactly where these hold. lent is how many bytes the buffer has.
use Rattle.std.specs.Prelude.{◌≡◌, ℕ, ◌≤◌, List, length}
use Rattle.format.specs.Record.{Record, Allowed, size, write}
use Rattle.sheet.specs.Sheet.{sheet_of}

-- the bytes are those of an allowed record, and its sheet fits
pub record AcceptedReading (bytes : List ℕ) (lent : ℕ) : Type 0 where
  pub value : Record
  pub allowed : Allowed value
  pub is : bytes ≡ write value
  pub room : length (sheet_of value) ≤ lent

-- the sheet is that of an allowed record, and the record fits
pub record AcceptedWriting (sheet : List ℕ) (lent : ℕ) : Type 0 where
  pub value : Record
  pub allowed : Allowed value
  pub is : sheet ≡ sheet_of value
  pub room : size value ≤ lent
