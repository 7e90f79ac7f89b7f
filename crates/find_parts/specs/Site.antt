-- Where a view stands whose lines are counted, as an order takes it from the code that finds it.
use Rattle.std.specs.Prelude.{◌≡◌, ℕ, ◌+◌, ◌*◌, ◌<◌, List, [], length}
use Rattle.bits.specs.Codec.{got}
use Rattle.format.specs.Line.{skeleton}
use Rattle.format.specs.Index.{index_block}
use Rattle.format.specs.Segments.{segments}
use Rattle.format.specs.Record.{Record, read}
use Rattle.format.specs.Places.{view_at, count, bits_before}
use Rattle.format.specs.declared.Widths.{Widths}
use Rattle.find_parts.specs.Stands.{BlockAt, BlocksIn}
use Rattle.find_parts.specs.declared.view.Blocks.{Blocks}
use Rattle.find_parts.specs.declared.site.Site.{Site}

-- x is where view i of the record r stands in its bytes s: its blocks, behind the views before it and the ten bytes of its header
pub record SiteOf (r : Record) (s : List ℕ) (i : ℕ) (x : Site) : Type 0 where
  pub there : i < length r.views
  pub widths : x.widths ≡ r.head.scale.widths
  pub count : x.lines ≡ count (view_at r i)
  pub before : 8 * x.skeleton.from ≡ bits_before r i + 80
  pub lines : BlockAt (skeleton x.widths) s x.skeleton.from x.skeleton.to (view_at r i).lines
  pub next : x.index.from ≡ x.skeleton.to + 2
  pub index : BlockAt (index_block x.lines) s x.index.from x.index.to (view_at r i).index
  pub last : x.extended.from ≡ x.index.to + 2
  pub segments : BlockAt segments s x.extended.from x.extended.to (view_at r i).segments

pub record SiteThere (s : List ℕ) (x : Blocks) (w : Widths) : Type 0 where
  pub value : Record
  pub reads : read s ≡ got value []
  pub widths : w ≡ value.head.scale.widths
  pub place : ℕ
  pub blocks : BlocksIn value s place x

pub record SiteFound (s : List ℕ) (x : Blocks) (w : Widths) (y : Site) : Type 0 where
  pub is : (r : Record) (i : ℕ) → w ≡ r.head.scale.widths → i < length r.views → BlocksIn r s i x → SiteOf r s i y
