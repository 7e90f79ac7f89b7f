-- What the judge of a sheet answers: of its record, how many views and bytes it has; or the sheet's refusal.
use Rattle.std.specs.Prelude.{◌≡◌, ℕ, Bool, true, false, Result, Ok, Err, List, [], length}
use Rattle.bits.specs.Codec.{got, refused}
use Rattle.outcome.specs.Refusals.{bad_sheet}
use Rattle.outcome.specs.Why.{number}
use Rattle.outcome.specs.declared.refusal.Refusal.{Refusal}
use Rattle.format.specs.Record.{Record, size}
use Rattle.sheet.specs.Sheet.{read_sheet}
use Rattle.check_values.specs.Sheet.{ValuesThere}
use Rattle.check_values.specs.declared.Valued.{Valued}

-- n views, z bytes
pub record SheetRight (s : List ℕ) (n z : ℕ) : Type 0 where
  pub value : Record
  pub reads : read_sheet s ≡ got value []
  pub count : n ≡ length value.views
  pub all : z ≡ size value

pub record SheetRefused (s : List ℕ) (e : ℕ) : Type 0 where
  pub left : ℕ
  pub refuses : read_sheet s ≡ refused e left

-- what judges the values may start, or the sheet is refused
abbrev pub InOrder : List ℕ → Bool → Type 0
InOrder s true = ValuesThere s
InOrder s false = SheetRefused s bad_sheet

abbrev pub SheetIs : List ℕ → Result Valued Refusal → Type 0
SheetIs s (Ok r) = SheetRight s r.views r.bytes
SheetIs s (Err e) = SheetRefused s (number e)
