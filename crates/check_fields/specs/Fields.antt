-- Where the fields of a sheet stand: each is its tag, its length in two bytes and its value, and the next one starts behind it.
use Rattle.std.specs.Prelude.{◌≡◌, ℕ, ◌≤◌, Bool, true, false, List, [], ◌++◌, length, drop}
use Rattle.bits.specs.Lists.{All}
use Rattle.bits.specs.Bytes.{bits_of}
use Rattle.bits.specs.Codec.{got, refused}
use Rattle.outcome.specs.Refusals.{bad_sheet}
use Rattle.put_bytes.specs.HighFirst.{start, joined}
use Rattle.sheet.specs.Fields.{Field, FitsField, fields}

abbrev pub field_bytes : Field → List ℕ
field_bytes f = start f.tag (length f.value) ++ f.value

-- the fields fs stand in the sheet s from byte p on, up to its end
pub record FieldsAt (s : List ℕ) (p : ℕ) (fs : List Field) : Type 0 where
  pub is : drop p s ≡ joined field_bytes fs
  pub fits : All FitsField fs
  pub within : p ≤ length s

-- no field is cut, or one is
pub record Fields (s : List ℕ) : Type 0 where
  pub value : List Field
  pub reads : fields.dec (bits_of s) ≡ got value []
  pub stand : FieldsAt s 0 value

pub record NoFields (s : List ℕ) : Type 0 where
  pub left : ℕ
  pub refuses : fields.dec (bits_of s) ≡ refused bad_sheet left

abbrev pub Whole : List ℕ → Bool → Type 0
Whole s true = Fields s
Whole s false = NoFields s
