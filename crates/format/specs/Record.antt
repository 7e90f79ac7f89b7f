-- The record: its header, then its views, and nothing behind them. Refusals 1 to 12, with their places.
use Rattle.std.specs.Prelude.{ℕ, ◌*◌, ◌/◌, ◌^◌, ◌≤◌, ◌<◌, Bool, List, [], ◌∷◌, length}
use Rattle.bits.specs.Choice.{pick, within}
use Rattle.bits.specs.Lists.{Along}
use Rattle.bits.specs.Bits.{Bits}
use Rattle.bits.specs.Bytes.{bits_of, bytes_of}
use Rattle.bits.specs.Codec.{Read, refused, next, Codec}
use Rattle.bits.specs.Block.{used_up}
use Rattle.bits.specs.CodecLaws.{field, then, via, along, fixed, Ranged, ranged}
use Rattle.outcome.specs.Refusals.{bad_size, bad_identifier, bad_version, bad_length, bad_header, bytes_over}
use Rattle.format.specs.Limits.{least_bytes, most_bytes}
pub use Rattle.format.specs.Parts.{FitsScale, FitsHeader, Narrow, Record}
use Rattle.format.specs.Parts.{scale_numbers, make_scale, numbers_of_scale, make_header, fields_of_header, RecordFits, make_record, parts_of_record}
use Rattle.format.specs.PartsLaws.{scale_matches, header_matches, record_matches}
use Rattle.format.specs.View.{View, view}
use Rattle.format.specs.declared.Widths.{Widths}
use Rattle.format.specs.declared.Scale.{Scale}
use Rattle.format.specs.declared.Header.{Header}

-- ---- the header

-- the widths and what belongs to them, 7 bytes; e is the refusal
abbrev pub scale : ℕ → Codec Bool Scale
scale e = via (scale_numbers e) make_scale numbers_of_scale FitsScale (scale_matches e)

-- n: the bytes lent, which the stated length must be; the number read is how many views there are
unfoldable pub header : ℕ → Codec Bool (Header × ℕ)
header n =
    via (then (fixed bad_identifier 32 0x46534B00) λ _. then (fixed bad_version 32 0x30313000) λ _. then (fixed bad_length 32 n) λ _.
    then (field bad_header 16) λ _. then (ranged bad_header 8 1 255) λ _. then (scale bad_header) λ _. fixed bad_header 16 0)
    make_header fields_of_header (λ t. (n < 2 ^ 32) × FitsHeader t.0 × Ranged 8 1 255 t.1) (header_matches n)

-- ---- the record

abbrev pub tell_seen : List ℕ → View → List ℕ
tell_seen seen v = v.head.position ∷ seen

unfoldable pub views : Widths → ℕ → Codec Bool (List View)
views w m = along (view w) tell_seen m []

-- each view fits behind those before it
abbrev pub FitsViews : Widths → List View → Type 0
FitsViews w vs = Along tell_seen (λ seen v. (view w seen).Fits v) [] vs

abbrev pub FitsRecord : Record → Type 0
FitsRecord r = RecordFits FitsViews r

unfoldable pub record_of : ℕ → Codec Bool Record
unfolding header views
record_of n =
    via (then (header n) λ t. views t.0.scale.widths t.1) make_record parts_of_record (λ r. (n < 2 ^ 32) × FitsRecord r)
    (record_matches n FitsViews)

-- ---- reading and writing, in bytes

-- nothing may be left behind the last view: 12
abbrev pub all_of : {A : Type 0} → A → Bits → Read Bool A
all_of r s = used_up bytes_over r s

-- "under 24 or over 32,768 bytes": 1, whose place is 0
unfoldable pub read : List ℕ → Read Bool Record
read bytes =
    pick (within least_bytes most_bytes (length bytes)) (next ((record_of (length bytes)).dec (bits_of bytes)) all_of) (refused bad_size (8 * length bytes))

-- a record's bytes; the length field's value does not change how many there are
unfoldable pub size : Record → ℕ
size r = length ((record_of 0).enc r) / 8

unfoldable pub write : Record → List ℕ
write r = bytes_of (size r) ((record_of (size r)).enc r)

-- the records that this paper describes
pub record Allowed (r : Record) : Type 0 where
  pub fits : FitsRecord r
  pub small : size r ≤ most_bytes
