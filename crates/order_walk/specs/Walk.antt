-- The lists of neighbours in an index block: where they stand, and what the code that walks along one of them asks and answers.
use Rattle.std.specs.Prelude.{◌≡◌, ℕ, ◌+◌, ◌*◌, ◌^◌, ◌≤◌, ◌<◌, List, ◌∷◌, ◌++◌, length, drop}
use Rattle.bits.specs.Lists.{All, Along}
use Rattle.bits.specs.Bits.{Bits}
use Rattle.bits.specs.Bytes.{bits_of}
use Rattle.bits.specs.CodecLaws.{enc_all, enc_along, field}
use Rattle.outcome.specs.Refusals.{bad_index}
use Rattle.differences.specs.Differences.{Falls, diffs}
use Rattle.format.specs.Index.{FitsList, neighbours, up}
use Rattle.order_walk.specs.declared.walk.ListWalk.{ListWalk}
use Rattle.order_walk.specs.declared.walk.LineStep.{LineStep}
use Rattle.order_walk.specs.declared.walk.Entry.{Entry}

-- ---- along one list

-- the lines ns are still to come of a list in the block s; the bits u follow
pub record WalkAt (s : List ℕ) (k : ListWalk) (ns : List ℕ) (u : Bits) : Type 0 where
  pub left : k.left ≡ length ns
  pub bits : drop k.at (bits_of s) ≡ enc_all (field bad_index k.width) (diffs k.base ns) ++ u
  pub within : k.at ≤ 8 * length s
  pub least : ℕ
  pub falls : Falls least k.base ns
  pub small : All (λ d. d < 2 ^ k.width) (diffs k.base ns)

pub record WalkThere (s : List ℕ) (k : ListWalk) : Type 0 where
  pub narrow : k.width ≤ 16
  pub short : length s ≤ 65535
  pub more : 0 < k.left
  pub value : List ℕ
  pub behind : Bits
  pub at : WalkAt s k value behind

-- the line r .line comes next, and then the lines `more`
pub record LineTo (s : List ℕ) (ns : List ℕ) (u : Bits) (r : LineStep) : Type 0 where
  pub more : List ℕ
  pub at : WalkAt s r.next more u
  pub is : ns ≡ r.line ∷ more

pub record NextLine (s : List ℕ) (k : ListWalk) (r : LineStep) : Type 0 where
  pub is : (ns : List ℕ) (u : Bits) → WalkAt s k ns u → LineTo s ns u r
  pub width : r.next.width ≡ k.width
  pub less : r.next.left < k.left

-- ---- the lists in the block

-- those of the lines from l on, from place p of the block s on
pub record ListsAt (w : ℕ) (s : List ℕ) (l p : ℕ) (ls : List (List ℕ)) (u : Bits) : Type 0 where
  pub bits : drop p (bits_of s) ≡ enc_along (neighbours w) up l ls ++ u
  pub fits : Along up (FitsList w) l ls
  pub within : p ≤ 8 * length s

-- line l's list at place p
pub record ListHere (w : ℕ) (s : List ℕ) (p l : ℕ) (ns : List ℕ) (u : Bits) : Type 0 where
  pub bits : drop p (bits_of s) ≡ (neighbours w l).enc ns ++ u
  pub fits : FitsList w l ns
  pub within : p ≤ 8 * length s

pub record EntryThere (w : ℕ) (s : List ℕ) (p l : ℕ) : Type 0 where
  pub narrow : w ≤ 16
  pub short : length s ≤ 65535
  pub value : List ℕ
  pub behind : Bits
  pub here : ListHere w s p l value behind

pub record EntryAt (w : ℕ) (s : List ℕ) (p l : ℕ) (r : Entry) : Type 0 where
  pub few : r.walk.left ≤ 65535
  pub width : r.walk.width ≡ w
  pub is : (ns : List ℕ) (u : Bits) → ListHere w s p l ns u → WalkAt s r.walk ns u × (r.next ≡ p + (w + length ns * w))
