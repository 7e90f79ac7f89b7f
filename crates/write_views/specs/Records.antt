-- What the writers of a record ask and leave: the sheet is that of an allowed record, and the record is laid.
use Rattle.std.specs.Prelude.{◌≡◌, ℕ, ◌≤◌, List, [], ◌∷◌, ◌++◌, length, take, drop}
use Rattle.bits.specs.Lists.{All}
use Rattle.put_bytes.specs.Laid.{Laid}
use Rattle.put_bytes.specs.HighFirst.{two, joined}
use Rattle.format.specs.View.{View}
use Rattle.format.specs.Record.{Record, size, Allowed, Narrow}
use Rattle.format.specs.declared.Widths.{Widths}
use Rattle.sheet_bytes.specs.Bytes.{view_bytes, record_bytes}
use Rattle.find_parts.specs.Stored.{view_out, record_out}
use Rattle.write_views.specs.Views.{RightView}

-- the header of a record with n bytes and m views, whose sheet is s: up to the device, and from there on
abbrev pub device_from : List ℕ → ℕ → List ℕ
device_from s n = ((0x46 ∷ 0x53 ∷ 0x4B ∷ 0x00 ∷ 0x30 ∷ 0x31 ∷ 0x30 ∷ 0x00 ∷ 0x00 ∷ 0x00 ∷ []) ++ two n) ++ take 2 (drop 3 s)

abbrev pub scale_from : List ℕ → ℕ → List ℕ
scale_from s m = ((m ∷ []) ++ take 7 (drop 5 s)) ++ two 0

-- ---- the views: their fields are all that stands from byte 12 of the sheet s on

pub record ViewsToWrite (w : Widths) (s out : List ℕ) : Type 0 where
  pub narrow : Narrow w
  pub value : List View
  pub is : drop 12 s ≡ joined (view_bytes w.k) value
  pub right : All (RightView w) value
  pub room : length (joined (view_out w) value) ≤ length out

pub record ViewsPut (w : Widths) (s before after : List ℕ) (n : ℕ) : Type 0 where
  pub is : (vs : List View) → drop 12 s ≡ joined (view_bytes w.k) vs → All (RightView w) vs → Laid (joined (view_out w) vs) before after n

-- ---- the record

pub record RecordThere (s : List ℕ) (bytes views : ℕ) (out : List ℕ) : Type 0 where
  pub value : Record
  pub allowed : Allowed value
  pub is : s ≡ record_bytes value
  pub size : bytes ≡ size value
  pub count : views ≡ length value.views
  pub room : bytes ≤ length out

pub record RecordPut (s : List ℕ) (bytes views : ℕ) (before after : List ℕ) (n : ℕ) : Type 0 where
  pub is : (r : Record) → Allowed r → s ≡ record_bytes r → bytes ≡ size r → views ≡ length r.views → Laid (record_out r) before after n
