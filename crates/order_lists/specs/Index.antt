-- The index block after an order, and what the code that sizes and puts it asks and answers: whatever index the block has, the new
-- one has the lists that the order leaves, at their least width. The order is known by a removal's bytes and by the bytes of words.
use Rattle.std.specs.Prelude.{◌≡◌, ℕ, ◌≤◌, List, length}
use Rattle.std.proofs.Math.Option.{some}
use Rattle.bits.specs.Lists.{Along}
use Rattle.bits.specs.Bits.{Bits}
use Rattle.bits.specs.Bytes.{bits_of, in_bytes}
use Rattle.bits.specs.Codec.{got}
use Rattle.put_bytes.specs.Laid.{Laid}
use Rattle.differences.specs.Differences.{Falls}
use Rattle.format.specs.Index.{Index, index_block, up}
use Rattle.orders.specs.Least.{least_width, index_of}
use Rattle.orders.specs.Listed.{removal_lines}
use Rattle.order_removal.specs.Rank.{Rising}
use Rattle.order_words.specs.After.{heard_in}
use Rattle.order_lists.specs.Lists.{new_from}
use Rattle.order_lists.specs.declared.index.Size.{Size}

-- the lists that the order leaves of an index
abbrev pub left : (removal words : List ℕ) → Index → List (List ℕ)
left removal words i = new_from (removal_lines removal) (heard_in words) 0 i.lists

-- the bytes of the new block; how many lines it is for does not change them
abbrev pub new_block : (removal words : List ℕ) → Index → List ℕ
new_block removal words i = in_bytes ((index_block 0).enc (some (index_of (left removal words i))))

pub record IndexThere (s : List ℕ) (lines : ℕ) (words removal : List ℕ) : Type 0 where
  pub short : length s ≤ 65535
  pub rising : Rising removal
  pub few : lines ≤ 1024
  pub value : Index
  pub behind : Bits
  pub reads : (index_block lines).dec (bits_of s) ≡ got (some value) behind
  pub falls : Along up (Falls 0) 0 (left removal words value)
  pub kept : length (left removal words value) ≤ 1024

pub record IndexSized (s : List ℕ) (lines : ℕ) (words removal : List ℕ) (r : Size) : Type 0 where
  pub is : (i : Index) (u : Bits) → (index_block lines).dec (bits_of s) ≡ got (some i) u → Along up (Falls 0) 0 (left removal words i) → length (left removal words i) ≤ 1024
      → (r.width ≡ least_width (left removal words i)) × (r.bytes ≡ length (new_block removal words i))

pub record IndexPutThere (s : List ℕ) (lines : ℕ) (words removal : List ℕ) (width : ℕ) (out : List ℕ) : Type 0 where
  pub there : IndexThere s lines words removal
  pub least : width ≡ least_width (left removal words there.value)
  pub small : length (new_block removal words there.value) ≤ 65535
  pub room : length (new_block removal words there.value) ≤ length out

pub record IndexPut (s : List ℕ) (lines : ℕ) (words removal before after : List ℕ) (r : ℕ) : Type 0 where
  pub is : (i : Index) (u : Bits) → (index_block lines).dec (bits_of s) ≡ got (some i) u → Along up (Falls 0) 0 (left removal words i) → length (left removal words i) ≤ 1024
      → Laid (new_block removal words i) before after r
