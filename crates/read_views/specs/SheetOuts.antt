-- What the writer of a sheet asks and leaves: it is lent an accepted record's bytes s, with the widths and the number of views that
-- the judge has found in them, and lays the record's sheet.
use Rattle.std.specs.Prelude.{◌≡◌, ℕ, ◌≤◌, List, [], ◌++◌, length, take, drop}
use Rattle.bits.specs.Codec.{got}
use Rattle.bits.specs.Lists.{total}
use Rattle.put_bytes.specs.Laid.{Laid}
use Rattle.format.specs.Record.{Record, read}
use Rattle.format.specs.SheetSize.{view_size, sheet_size}
use Rattle.format.specs.declared.Widths.{Widths}
use Rattle.put_bytes.specs.HighFirst.{start, joined}
use Rattle.sheet_bytes.specs.Bytes.{view_bytes, record_bytes}

-- the 01 field: "record bytes 12-13, then 15 to 21"
abbrev pub header_field : List ℕ → List ℕ
header_field s = (start 1 9 ++ take 2 (drop 12 s)) ++ take 7 (drop 15 s)

-- ---- the views of the record; n bytes are lent

pub record ViewsToRead (w : Widths) (count : ℕ) (s : List ℕ) (n : ℕ) : Type 0 where
  pub value : Record
  pub reads : read s ≡ got value []
  pub widths : w ≡ value.head.scale.widths
  pub views : count ≡ length value.views
  pub room : total view_size value.views ≤ n

pub record ViewsOut (s before after : List ℕ) (n : ℕ) : Type 0 where
  pub is : (r : Record) → read s ≡ got r [] → Laid (joined (view_bytes r.head.scale.widths.k) r.views) before after n

-- ---- the record

pub record SheetThere (w : Widths) (count : ℕ) (s : List ℕ) (n : ℕ) : Type 0 where
  pub value : Record
  pub reads : read s ≡ got value []
  pub widths : w ≡ value.head.scale.widths
  pub views : count ≡ length value.views
  pub room : sheet_size value ≤ n

pub record SheetOut (s before after : List ℕ) (n : ℕ) : Type 0 where
  pub is : (r : Record) → read s ≡ got r [] → Laid (record_bytes r) before after n
