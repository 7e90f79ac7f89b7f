-- The extended block that a removal leaves, and what the code that sizes and puts it asks and answers. s: the old block.
use Rattle.std.specs.Prelude.{◌≡◌, ℕ, ◌≤◌, List, length, T}
use Rattle.bits.specs.Bits.{Bits}
use Rattle.bits.specs.Bytes.{bits_of, in_bytes}
use Rattle.bits.specs.Codec.{got}
use Rattle.bits.specs.OfBlock.{BlockThere}
use Rattle.put_bytes.specs.Laid.{Laid}
use Rattle.format.specs.Segments.{Segment, segments}
use Rattle.pores.specs.Keep.{keep_segments, all_pores_right}
use Rattle.orders.specs.Survive.{survivors}
use Rattle.orders.specs.Listed.{removal_lines}
use Rattle.order_removal.specs.Rank.{Rising}

abbrev pub kept_segments : (lines : ℕ) → (removal : List ℕ) → List Segment → List Segment
kept_segments lines removal gs = keep_segments lines (survivors lines (removal_lines removal)) gs

-- their block
abbrev pub kept_extended : (lines : ℕ) → (removal : List ℕ) → List Segment → List ℕ
kept_extended lines removal gs = in_bytes (segments.enc (kept_segments lines removal gs))

pub record ExtendedToKeep (s : List ℕ) (lines : ℕ) (removal : List ℕ) : Type 0 where
  pub block : BlockThere segments s
  pub few : lines ≤ 1024
  pub rising : Rising removal
  pub right : T (all_pores_right lines block.value)

pub record ExtendedSized (s : List ℕ) (lines : ℕ) (removal : List ℕ) (r : ℕ) : Type 0 where
  pub is : (gs : List Segment) (u : Bits) → segments.dec (bits_of s) ≡ got gs u → T (all_pores_right lines gs) → r ≡ length (kept_extended lines removal gs)

pub record ExtendedPutThere (s : List ℕ) (lines : ℕ) (removal out : List ℕ) : Type 0 where
  pub there : ExtendedToKeep s lines removal
  pub room : length (kept_extended lines removal there.block.value) ≤ length out

pub record ExtendedPut (s : List ℕ) (lines : ℕ) (removal before after : List ℕ) (r : ℕ) : Type 0 where
  pub is : (gs : List Segment) (u : Bits) → segments.dec (bits_of s) ≡ got gs u → T (all_pores_right lines gs) → Laid (kept_extended lines removal gs) before after r
