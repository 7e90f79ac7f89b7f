-- Whether a line is in another's list of the index block s, and whether it is after the words of a list: what the code that finds the
-- list and looks through it asks and answers.
use Rattle.std.specs.Prelude.{◌≡◌, ℕ, ◌≤◌, ◌<◌, Bool, List, [], length, get_or}
use Rattle.std.proofs.Math.Option.{some}
use Rattle.bits.specs.Bits.{Bits}
use Rattle.bits.specs.Bytes.{bits_of}
use Rattle.bits.specs.Codec.{got}
use Rattle.format.specs.Index.{Index, index_block}
use Rattle.orders.specs.Survive.{elem}
use Rattle.orders.specs.History.{said}
use Rattle.order_words.specs.After.{heard_in}
use Rattle.order_walk.specs.Walk.{WalkAt, ListsAt}
use Rattle.order_walk.specs.declared.walk.ListWalk.{ListWalk}

-- ---- one list, at the walk k

pub record HasThere (s : List ℕ) (k : ListWalk) : Type 0 where
  pub narrow : k.width ≤ 16
  pub short : length s ≤ 65535
  pub value : List ℕ
  pub behind : Bits
  pub at : WalkAt s k value behind

pub record Has (s : List ℕ) (k : ListWalk) (low : ℕ) (r : Bool) : Type 0 where
  pub is : (ns : List ℕ) (u : Bits) → WalkAt s k ns u → r ≡ elem low ns

-- ---- the list of line `line`

pub record FindThere (w : ℕ) (s : List ℕ) (line : ℕ) : Type 0 where
  pub narrow : w ≤ 16
  pub short : length s ≤ 65535
  pub value : List (List ℕ)
  pub behind : Bits
  pub at : ListsAt w s 0 8 value behind
  pub there : line < length value
  pub few : length value ≤ 1024

pub record FoundAt (w : ℕ) (s : List ℕ) (line : ℕ) (r : ListWalk) : Type 0 where
  pub width : r.width ≡ w
  pub is : (ls : List (List ℕ)) (u : Bits) → ListsAt w s 0 8 ls u → line < length ls → (v : Bits) × WalkAt s r (get_or ls line []) v

-- ---- whether line `low` is in the list of line `high`, in the index block of a view whose line count is `lines`

pub record NearThere (s : List ℕ) (high : ℕ) : Type 0 where
  pub short : length s ≤ 65535
  pub lines : ℕ
  pub few : lines ≤ 1024
  pub below : high < lines
  pub value : Index
  pub behind : Bits
  pub reads : (index_block lines).dec (bits_of s) ≡ got (some value) behind

pub record Near (s : List ℕ) (high low : ℕ) (r : Bool) : Type 0 where
  pub is : (lines : ℕ) (i : Index) (u : Bits) → (index_block lines).dec (bits_of s) ≡ got (some i) u → high < lines → r ≡ elem low (get_or i.lists high [])

-- ---- the same after the words

pub record NearAfterThere (s : List ℕ) (high low : ℕ) : Type 0 where
  pub index : NearThere s high
  pub higher : low ≤ high

pub record NearAfter (s words : List ℕ) (high low : ℕ) (r : Bool) : Type 0 where
  pub is : (lines : ℕ) (i : Index) (u : Bits) → (index_block lines).dec (bits_of s) ≡ got (some i) u → high < lines
      → r ≡ said (heard_in words) high low (elem low (get_or i.lists high []))
