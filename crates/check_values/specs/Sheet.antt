-- What the judge of a sheet's values asks and answers. It asks that no field is cut and that the grammar holds; its answer is the
-- record that the sheet gives, told by its views and its bytes, or that it gives none: refusal 22.
use Rattle.std.specs.Prelude.{◌≡◌, ℕ, Option, Some, None, List, [], length, T}
use Rattle.bits.specs.Bytes.{bits_of}
use Rattle.bits.specs.Codec.{got, refused}
use Rattle.outcome.specs.Refusals.{bad_value}
use Rattle.format.specs.Record.{Record, size}
use Rattle.sheet.specs.Fields.{Field, fields}
use Rattle.sheet.specs.Grammar.{sheet_in, grammar}
use Rattle.sheet.specs.Sheet.{record_from}
use Rattle.check_fields.specs.Fields.{FieldsAt}
use Rattle.check_values.specs.declared.Valued.{Valued}

pub record ValuesThere (s : List ℕ) : Type 0 where
  pub value : List Field
  pub reads : fields.dec (bits_of s) ≡ got value []
  pub stand : FieldsAt s 0 value
  pub right : T (grammar value)

-- n views, z bytes
pub record RecordRight (fs : List Field) (n z : ℕ) : Type 0 where
  pub value : Record
  pub reads : record_from (sheet_in fs) ≡ got value []
  pub count : n ≡ length value.views
  pub all : z ≡ size value

pub record RecordWrong (fs : List Field) : Type 0 where
  pub left : ℕ
  pub refuses : record_from (sheet_in fs) ≡ refused bad_value left

abbrev pub ValuesAre : List ℕ → Option Valued → Type 0
ValuesAre s (Some r) = (fs : List Field) → fields.dec (bits_of s) ≡ got fs [] → RecordRight fs r.views r.bytes
ValuesAre s None = (fs : List Field) → fields.dec (bits_of s) ≡ got fs [] → RecordWrong fs
