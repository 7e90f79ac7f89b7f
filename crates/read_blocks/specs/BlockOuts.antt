-- What the writers of the index and of the segments ask and leave: as for lines.
use Rattle.std.specs.Prelude.{◌≡◌, ℕ, ◌≤◌, List, length}
use Rattle.std.proofs.Math.Option.{Option}
use Rattle.bits.specs.Bits.{Bits}
use Rattle.bits.specs.Bytes.{bits_of}
use Rattle.bits.specs.Codec.{got}
use Rattle.bits.specs.Lists.{total}
use Rattle.put_bytes.specs.Laid.{Laid}
use Rattle.format.specs.Index.{Index, index_block}
use Rattle.format.specs.Segments.{Segment, segments}
use Rattle.format.specs.SheetSize.{index_size, segment_size}
use Rattle.put_bytes.specs.HighFirst.{joined}
use Rattle.sheet_bytes.specs.Bytes.{index_bytes, segment_bytes}

-- ---- the index block s of a view with that many lines

pub record IndexToRead (lines : ℕ) (s : List ℕ) (n : ℕ) : Type 0 where
  pub few : lines ≤ 1024
  pub short : length s ≤ 65535
  pub value : Option Index
  pub left : Bits
  pub reads : (index_block lines).dec (bits_of s) ≡ got value left
  pub room : index_size value ≤ n

pub record IndexOut (lines : ℕ) (s before after : List ℕ) (r : ℕ) : Type 0 where
  pub is : (o : Option Index) (u : Bits) → (index_block lines).dec (bits_of s) ≡ got o u → Laid (index_bytes o) before after r

-- ---- the extended block s

pub record SegmentsToRead (s : List ℕ) (n : ℕ) : Type 0 where
  pub short : length s ≤ 65535
  pub value : List Segment
  pub left : Bits
  pub reads : segments.dec (bits_of s) ≡ got value left
  pub room : total segment_size value ≤ n

pub record SegmentsOut (s before after : List ℕ) (r : ℕ) : Type 0 where
  pub is : (gs : List Segment) (u : Bits) → segments.dec (bits_of s) ≡ got gs u → Laid (joined segment_bytes gs) before after r
