-- The house's tagged fields: "one-byte tag, two-byte length, value". A field that is cut gives 21.
use Rattle.std.specs.Prelude.{◌≡◌, ◌+◌, ◌*◌, ◌%◌, ◌<◌, Bool, List, length}
use Rattle.std.proofs.Common.{arith, length-append}
use Rattle.bits.specs.BitsLaws.{length_bits}
use Rattle.bits.specs.Codec.{Codec}
use Rattle.bits.specs.CodecLaws.{field, then, via, counted}
use Rattle.bits.specs.Block.{Block}
use Rattle.bits.proofs.BlockLaws.{fill}
use Rattle.outcome.specs.Refusals.{bad_sheet}
use Rattle.format.specs.PartsLaws.{length_bytes}
pub use Rattle.sheet.specs.Parts.{Field, FitsField}
use Rattle.sheet.specs.Parts.{make_field, parts_of_field}
use Rattle.sheet.specs.PartsLaws.{field_matches}

unfoldable pub tagged : Codec Bool Field
tagged = via (then (field bad_sheet 8) λ _. counted (field bad_sheet 16) (field bad_sheet 8)) make_field parts_of_field FitsField field_matches

-- ---- a sheet's fields

pub length_tagged : (f : Field) → length (tagged.enc f) ≡ 24 + 8 * length f.value
unfolding tagged
length_tagged f = simp (length-append, length_bits, length_bytes) (omega arith)

pub tagged_some : (f : Field) → 0 < length (tagged.enc f)
tagged_some f = omega (arith, length_tagged f)

pub tagged_whole : (f : Field) → length (tagged.enc f) % 8 ≡ 0
tagged_whole f = omega (arith, length_tagged f)

unfoldable pub fields : Block (List Field)
fields = fill tagged bad_sheet tagged_some tagged_whole
