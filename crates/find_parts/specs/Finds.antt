-- What the code that finds the parts of an accepted record asks and answers: it asks that its part reads as some value, and
-- whatever value the part reads as, its answer is where that value stands.
use Rattle.std.specs.Prelude.{◌≡◌, ℕ, ◌+◌, ◌-◌, ◌*◌, ◌≤◌, ◌<◌, List, [], ◌++◌, length, take, drop, Option, Some, None}
use Rattle.bits.specs.Bits.{Bits}
use Rattle.bits.specs.Bytes.{bits_of}
use Rattle.bits.specs.Codec.{got, field_dec}
use Rattle.bits.specs.Block.{many_dec, fill_dec}
use Rattle.bits.specs.Reads.{found, Reads}
use Rattle.put_bytes.specs.HighFirst.{two}
use Rattle.outcome.specs.Refusals.{past, bad_line, too_many_lines, bad_segment}
use Rattle.format.specs.Limits.{most_lines}
use Rattle.format.specs.Line.{Line, line, skeleton}
use Rattle.format.specs.Segments.{Segment, segment, segments}
use Rattle.format.specs.View.{View}
use Rattle.format.specs.Places.{segment_bits}
use Rattle.format.specs.Record.{Record, read, Narrow}
use Rattle.format.specs.Named.{place_in, Means}
use Rattle.format.specs.declared.Widths.{Widths}
use Rattle.format.specs.declared.ViewName.{ViewName}
use Rattle.find_parts.specs.Stands.{BlocksAt, ViewIn}
use Rattle.format.specs.declared.Part.{Part}
use Rattle.find_parts.specs.declared.view.Blocks.{Blocks}
use Rattle.find_parts.specs.declared.Passed.{Passed}

-- ---- blocks

-- x is the block whose length is at byte b, whatever it holds
pub record BlockFound (s : List ℕ) (b : ℕ) (x : Part) : Type 0 where
  pub from : x.from ≡ b + 2
  pub is : (n q : ℕ) → Reads (field_dec past 16) s (8 * b) (found n q) → x.to ≡ b + 2 + n

pub record BlocksThere (s : List ℕ) (b : ℕ) : Type 0 where
  pub short : length s ≤ 32768
  pub widths : Widths
  pub value : View
  pub behind : ℕ
  pub blocks : BlocksAt widths s b value behind

pub record BlocksFound (s : List ℕ) (b : ℕ) (x : Blocks) : Type 0 where
  pub skeleton : x.skeleton.from ≡ b + 2
  pub index : x.index.from ≡ x.skeleton.to + 2
  pub extended : x.extended.from ≡ x.index.to + 2
  pub is : (w : Widths) (v : View) (d : ℕ) (B : BlocksAt w s b v d) → (x.skeleton.to ≡ B.i) × (x.index.to ≡ B.j) × (x.extended.to ≡ d)

-- ---- the view that a name means, of the record s

pub record ViewsThere (s : List ℕ) : Type 0 where
  pub value : Record
  pub reads : read s ≡ got value []

-- it starts at byte a, whichever place it has
pub record MeantAt (view : ViewName) (r : Record) (s : List ℕ) (a : ℕ) : Type 0 where
  pub place : ℕ
  pub means : Means view r place
  pub at : ViewIn r s place a

-- it starts at byte a, within the record
pub record NameAt (s : List ℕ) (view : ViewName) (a : ℕ) : Type 0 where
  pub within : a < length s
  pub there : (r : Record) → read s ≡ got r [] → MeantAt view r s a

-- where it is none, the name means none
abbrev pub NameFound : List ℕ → ViewName → Option ℕ → Type 0
NameFound s view (Some a) = NameAt s view a
NameFound s view None = (r : Record) → read s ≡ got r [] → length r.views ≤ place_in view r.views

-- ---- lines of the skeleton block s

pub record LineThere (w : Widths) (s : List ℕ) (p : ℕ) : Type 0 where
  pub narrow : Narrow w
  pub short : length s ≤ 65535
  pub value : Line
  pub behind : ℕ
  pub reads : Reads (line w).dec s p (found value behind)

pub record LineEnd (w : Widths) (s : List ℕ) (p q : ℕ) : Type 0 where
  pub is : (l : Line) (e : ℕ) → Reads (line w).dec s p (found l e) → q ≡ e

pub record LinesThere (w : Widths) (s : List ℕ) : Type 0 where
  pub narrow : Narrow w
  pub short : length s ≤ 65535
  pub value : List Line
  pub left : Bits
  pub reads : (skeleton w).dec (bits_of s) ≡ got value left

-- n lines are passed; those from place p on are ls, and u is left behind them
pub record LinesLeft (w : Widths) (s : List ℕ) (n p : ℕ) (ls : List Line) (u : Bits) : Type 0 where
  pub reads : many_dec (line w) bad_line too_many_lines (most_lines - n) (drop p (bits_of s)) ≡ got ls u
  pub few : n ≤ most_lines
  pub within : p ≤ 8 * length s

-- at most `most` lines were passed; where fewer were, there are no more
pub record LinesPassed (w : Widths) (s : List ℕ) (most : ℕ) (r : Passed) : Type 0 where
  pub upto : r.count ≤ most
  pub all : r.count < most → 8 * length s - r.next < 8
  pub is : (ls : List Line) (u : Bits) → (skeleton w).dec (bits_of s) ≡ got ls u → (r.count ≤ length ls) × LinesLeft w s r.count r.next (drop r.count ls) u

-- ---- segments of the extended block s

-- a segment's bytes
abbrev pub segment_stored : Segment → List ℕ
segment_stored g = two g.kind ++ (two (4 + length g.payload) ++ g.payload)

-- those from byte a on are gs, and u is left behind them
pub record SegmentsLeft (s : List ℕ) (a : ℕ) (gs : List Segment) (u : Bits) : Type 0 where
  pub fuel : ℕ
  pub reads : fill_dec segment bad_segment fuel (drop (8 * a) (bits_of s)) ≡ got gs u
  pub within : a ≤ length s

pub record SegmentsPassed (s : List ℕ) (most : ℕ) (r : Passed) : Type 0 where
  pub upto : r.count ≤ most
  pub all : r.count < most → length s ≤ r.next
  pub is : (gs : List Segment) (u : Bits) → segments.dec (bits_of s) ≡ got gs u
      → (r.count ≤ length gs) × SegmentsLeft s r.next (drop r.count gs) u × (8 * r.next ≡ segment_bits (take r.count gs))
