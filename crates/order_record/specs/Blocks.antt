-- The three blocks that an order leaves, and what the code that measures and puts them asks and answers. The order is known by a removal's
-- bytes and the bytes of words about pairs.
use Rattle.std.specs.Prelude.{◌≡◌, ◌≢◌, ℕ, ◌+◌, ◌≤◌, ◌<◌, List, [], length, T}
use Rattle.std.proofs.Math.Option.{Option, some, map}
use Rattle.bits.specs.Lists.{All, Along}
use Rattle.bits.specs.Bytes.{Byte, bits_of, in_bytes}
use Rattle.bits.specs.Codec.{got}
use Rattle.put_bytes.specs.Laid.{Laid}
use Rattle.format.specs.Line.{Line, skeleton}
use Rattle.differences.specs.Differences.{Falls}
use Rattle.format.specs.Index.{Index, up, index_block}
use Rattle.format.specs.Segments.{Segment, segments}
use Rattle.format.specs.Record.{Narrow}
use Rattle.format.specs.declared.Widths.{Widths}
use Rattle.pores.specs.Keep.{all_pores_right}
use Rattle.orders.specs.Least.{least_width, index_of}
use Rattle.order_removal.specs.Rank.{Rising}
use Rattle.find_parts.specs.Stored.{sized}
use Rattle.order_lists.specs.Index.{left}
use Rattle.order_lists.specs.declared.index.Size.{Size}
use Rattle.order_lines.specs.Lines.{kept_block}
use Rattle.order_extended.specs.Extended.{kept_extended}

-- ---- the skeleton block of a view with `lines` lines, whose old bytes are s

pub record OldSkeleton (w : Widths) (s : List ℕ) (lines : ℕ) (removal : List ℕ) : Type 0 where
  pub narrow : Narrow w
  pub bytes : All Byte s
  pub short : length s ≤ 65535
  pub rising : Rising removal
  pub value : List Line
  pub reads : (skeleton w).dec (bits_of s) ≡ got value []
  pub count : lines ≡ length value

pub record SkeletonMeasured (w : Widths) (s removal : List ℕ) (r : ℕ) : Type 0 where
  pub is : (ls : List Line) → (skeleton w).dec (bits_of s) ≡ got ls [] → r ≡ length (kept_block w removal ls)

pub record SkeletonRoom (w : Widths) (s : List ℕ) (lines : ℕ) (removal : List ℕ) (n : ℕ) (out : List ℕ) : Type 0 where
  pub there : OldSkeleton w s lines removal
  pub size : n ≡ length (kept_block w removal there.value)
  pub small : n < 65536
  pub room : 2 + n ≤ length out

pub record SkeletonLaid (w : Widths) (s removal before after : List ℕ) (r : ℕ) : Type 0 where
  pub is : (ls : List Line) → (skeleton w).dec (bits_of s) ≡ got ls [] → Laid (sized (kept_block w removal ls)) before after r

-- ---- the index block of a view with `lines` lines, whose old bytes are s

abbrev pub new_index : (removal words : List ℕ) → Option Index → Option Index
new_index removal words o = map (λ i. index_of (left removal words i)) o

-- its bytes; where there is one, those of new_block (order_lists/specs/Index)
abbrev pub new_index_block : (removal words : List ℕ) → Option Index → List ℕ
new_index_block removal words o = in_bytes ((index_block 0).enc (new_index removal words o))

-- the new lists are right
abbrev pub Keeps : (removal words : List ℕ) → Option Index → Type 0
Keeps removal words o = (i : Index) → o ≡ some i → Along up (Falls 0) 0 (left removal words i) × (length (left removal words i) ≤ 1024)

pub record OldIndex (s : List ℕ) (lines : ℕ) (words removal : List ℕ) : Type 0 where
  pub short : length s ≤ 65535
  pub rising : Rising removal
  pub few : lines ≤ 1024
  pub value : Option Index
  pub reads : (index_block lines).dec (bits_of s) ≡ got value []
  pub keeps : Keeps removal words value

-- r says how wide and how long the new index is
pub record SizeOf (removal words : List ℕ) (o : Option Index) (r : Size) : Type 0 where
  pub width : (i : Index) → o ≡ some i → r.width ≡ least_width (left removal words i)
  pub bytes : r.bytes ≡ length (new_index_block removal words o)

pub record IndexMeasured (s : List ℕ) (lines : ℕ) (words removal : List ℕ) (r : Size) : Type 0 where
  pub is : (o : Option Index) → (index_block lines).dec (bits_of s) ≡ got o [] → SizeOf removal words o r

pub record IndexRoom (s : List ℕ) (lines : ℕ) (words removal : List ℕ) (width n : ℕ) (out : List ℕ) : Type 0 where
  pub there : OldIndex s lines words removal
  pub size : SizeOf removal words there.value (record { width = width; bytes = n })
  pub small : n < 65536
  pub room : 2 + n ≤ length out

pub record IndexLaid (s : List ℕ) (lines : ℕ) (words removal before after : List ℕ) (r : ℕ) : Type 0 where
  pub is : (o : Option Index) → (index_block lines).dec (bits_of s) ≡ got o [] → Laid (sized (new_index_block removal words o)) before after r

-- ---- the extended block of a view with `lines` lines, whose old bytes are s

-- where lines are removed, its pores are right
pub record OldExtended (s : List ℕ) (lines : ℕ) (removal : List ℕ) : Type 0 where
  pub bytes : All Byte s
  pub short : length s ≤ 65535
  pub rising : Rising removal
  pub few : lines ≤ 1024
  pub value : List Segment
  pub reads : segments.dec (bits_of s) ≡ got value []
  pub right : length removal ≢ 0 → T (all_pores_right lines value)

pub record ExtendedMeasured (s : List ℕ) (lines : ℕ) (removal : List ℕ) (r : ℕ) : Type 0 where
  pub is : (gs : List Segment) → segments.dec (bits_of s) ≡ got gs [] → r ≡ length (kept_extended lines removal gs)

pub record ExtendedRoom (s : List ℕ) (lines : ℕ) (removal : List ℕ) (n : ℕ) (out : List ℕ) : Type 0 where
  pub there : OldExtended s lines removal
  pub size : n ≡ length (kept_extended lines removal there.value)
  pub small : n < 65536
  pub room : 2 + n ≤ length out

pub record ExtendedLaid (s : List ℕ) (lines : ℕ) (removal before after : List ℕ) (r : ℕ) : Type 0 where
  pub is : (gs : List Segment) → segments.dec (bits_of s) ≡ got gs [] → Laid (sized (kept_extended lines removal gs)) before after r
