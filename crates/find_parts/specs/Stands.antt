-- Where the parts of an accepted record stand. A view's blocks are told by their places: each stands behind its length, a number of
-- 16 bits, and the next one's length behind it. Places of blocks are bytes of the record s.
use Rattle.std.specs.Prelude.{◌≡◌, ℕ, ◌+◌, ◌-◌, ◌*◌, ◌≤◌, List, [], length, take, drop}
use Rattle.bits.specs.Bits.{Bits}
use Rattle.bits.specs.Bytes.{bits_of}
use Rattle.bits.specs.Codec.{got, field_dec}
use Rattle.bits.specs.Block.{Block}
use Rattle.bits.specs.Reads.{found, Reads}
use Rattle.outcome.specs.Refusals.{past, bad_view}
use Rattle.format.specs.Line.{skeleton}
use Rattle.format.specs.Index.{index_block}
use Rattle.format.specs.Segments.{segments}
use Rattle.format.specs.View.{View, head_fields}
use Rattle.format.specs.Record.{Record}
use Rattle.format.specs.Places.{view_at, count, bits_before}
use Rattle.format.specs.declared.Widths.{Widths}
use Rattle.find_parts.specs.declared.view.Blocks.{Blocks}

-- ---- the block from byte a up to byte e; its length is in the two bytes before it

pub record BlockAt {A : Type 0} (w : Block A) (s : List ℕ) (a e : ℕ) (v : A) : Type 0 where
  pub front : ℕ
  pub behind : a ≡ front + 2
  pub size : Reads (field_dec past 16) s (8 * front) (found (e - a) (8 * a))
  pub from : a ≤ e
  pub within : e ≤ length s
  pub value : w.dec (bits_of (take (e - a) (drop a s))) ≡ got v []

-- ---- the blocks of a view, with their lengths, from byte b up to byte d: the index's length is at byte i, the extended length at j

pub record BlocksAt (w : Widths) (s : List ℕ) (b : ℕ) (v : View) (d : ℕ) : Type 0 where
  pub i : ℕ
  pub j : ℕ
  pub lines : BlockAt (skeleton w) s (b + 2) i v.lines
  pub index : BlockAt (index_block (length v.lines)) s (i + 2) j v.index
  pub segments : BlockAt segments s (j + 2) d v.segments

-- ---- the view that starts at byte a: its header's eight bytes, and its blocks

pub record ViewAt (w : Widths) (s : List ℕ) (a : ℕ) (v : View) : Type 0 where
  pub earlier : ℕ → ℕ
  pub rest : Bits
  pub head : (head_fields bad_view earlier).dec (drop (8 * a) (bits_of s)) ≡ got v.head rest
  pub behind : ℕ
  pub blocks : BlocksAt w s (a + 8) v behind

-- view i of the record r, whose bytes are s
pub record ViewIn (r : Record) (s : List ℕ) (i a : ℕ) : Type 0 where
  pub before : 8 * a ≡ bits_before r i
  pub at : ViewAt r.head.scale.widths s a (view_at r i)

-- where the blocks of that view stand: behind the ten bytes of its header, and each behind its length
pub record BlocksIn (r : Record) (s : List ℕ) (i : ℕ) (x : Blocks) : Type 0 where
  pub before : 8 * x.skeleton.from ≡ bits_before r i + 80
  pub lines : BlockAt (skeleton r.head.scale.widths) s x.skeleton.from x.skeleton.to (view_at r i).lines
  pub next : x.index.from ≡ x.skeleton.to + 2
  pub index : BlockAt (index_block (count (view_at r i))) s x.index.from x.index.to (view_at r i).index
  pub last : x.extended.from ≡ x.index.to + 2
  pub segments : BlockAt segments s x.extended.from x.extended.to (view_at r i).segments
