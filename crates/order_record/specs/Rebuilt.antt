-- The record that an order leaves, as code has the order, and what the code that measures and puts it asks and answers. That it is the
-- record of the definitions is a law (Acts): of a removal, and of a list of pairs.
use Rattle.std.specs.Prelude.{◌≡◌, ◌≢◌, ℕ, ◌≤◌, List, [], length, T}
use Rattle.bits.specs.Codec.{got}
use Rattle.put_bytes.specs.Laid.{Laid}
use Rattle.format.specs.View.{View}
use Rattle.format.specs.Record.{Record, read, size}
use Rattle.format.specs.Places.{view_at, with_view}
use Rattle.pores.specs.Keep.{all_pores_right}
use Rattle.orders.specs.Listed.{removal_lines}
use Rattle.order_removal.specs.Rank.{Rising}
use Rattle.find_parts.specs.Stored.{record_out}
use Rattle.order_lines.specs.Lines.{kept_from, kept_block}
use Rattle.order_extended.specs.Extended.{kept_segments, kept_extended}
use Rattle.find_parts.specs.Site.{SiteOf}
use Rattle.order_record.specs.Blocks.{new_index, Keeps, SizeOf}
use Rattle.find_parts.specs.declared.site.Site.{Site}
use Rattle.order_record.specs.declared.measure.Sizes.{Sizes}

unfoldable pub new_view : (removal words : List ℕ) → View → View
new_view removal words v =
    record { head = v.head; lines = kept_from (removal_lines removal) 0 v.lines; index = new_index removal words v.index; segments = kept_segments (length v.lines) removal v.segments }

unfoldable pub new_record : (removal words : List ℕ) → ℕ → Record → Record
new_record removal words i r = with_view r i (new_view removal words (view_at r i))

-- ---- s is a record's bytes, x is where the view stands that the order names, and the order keeps its lists right; where it removes
-- lines, the view's pores are right

pub record Placed (s : List ℕ) (x : Site) (words removal : List ℕ) : Type 0 where
  pub value : Record
  pub reads : read s ≡ got value []
  pub place : ℕ
  pub at : SiteOf value s place x
  pub rising : Rising removal
  pub keeps : Keeps removal words (view_at value place).index
  pub right : length removal ≢ 0 → T (all_pores_right x.lines (view_at value place).segments)

-- m says how long the blocks of view i and the record r become
pub record SizesOf (r : Record) (i : ℕ) (words removal : List ℕ) (m : Sizes) : Type 0 where
  pub skeleton : m.skeleton ≡ length (kept_block r.head.scale.widths removal (view_at r i).lines)
  pub index : SizeOf removal words (view_at r i).index (record { width = m.width; bytes = m.index })
  pub extended : m.extended ≡ length (kept_extended (length (view_at r i).lines) removal (view_at r i).segments)
  pub bytes : m.bytes ≡ size (new_record removal words i r)

pub record Measured (s : List ℕ) (x : Site) (words removal : List ℕ) (m : Sizes) : Type 0 where
  pub is : (r : Record) (i : ℕ) → read s ≡ got r [] → SiteOf r s i x → SizesOf r i words removal m

-- ---- the new record in the lent buffer

pub record RebuildRoom (s : List ℕ) (x : Site) (words removal : List ℕ) (m : Sizes) (out : List ℕ) : Type 0 where
  pub placed : Placed s x words removal
  pub sizes : SizesOf placed.value placed.place words removal m
  pub small : m.bytes ≤ 32768
  pub room : m.bytes ≤ length out

pub record Rebuilt (s : List ℕ) (x : Site) (words removal : List ℕ) (m : Sizes) (before after : List ℕ) (n : ℕ) : Type 0 where
  pub is : (r : Record) (i : ℕ) → read s ≡ got r [] → SiteOf r s i x → SizesOf r i words removal m → Laid (record_out (new_record removal words i r)) before after n
