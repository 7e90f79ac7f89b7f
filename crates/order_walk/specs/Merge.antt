-- A line's list of neighbours as the words about the line leave it: what the code that walks along it asks and answers.
use Rattle.std.specs.Prelude.{◌≡◌, ℕ, suc, ◌+◌, ◌≤◌, ◌<◌, false, List, ◌∷◌, length}
use Rattle.bits.specs.Choice.{pick}
use Rattle.bits.specs.Bits.{Bits}
use Rattle.differences.specs.Differences.{Falls}
use Rattle.orders.specs.Act.{Word}
use Rattle.orders.specs.History.{said}
use Rattle.order_words.specs.After.{heard_in, lines_below, Quiet}
use Rattle.order_walk.specs.Walk.{WalkAt}
use Rattle.order_walk.specs.declared.merge.Merge.{Merge}
use Rattle.order_walk.specs.declared.merge.Step.{Step}

-- below `before` all is still to come: the lines ns of the list in the block, and what the words say, which is nothing from the bound
-- on
pub record MergeAt (s : List ℕ) (hs : List Word) (l : ℕ) (k : Merge) (before : ℕ) (ns : List ℕ) (u : Bits) : Type 0 where
  pub at : WalkAt s k.walk ns u
  pub falls : Falls 1 before ns
  pub lines : before ≤ suc l
  pub within : k.bound ≤ before
  pub quiet : Quiet hs l k.bound before

pub record MergeThere (s words : List ℕ) (l : ℕ) (k : Merge) : Type 0 where
  pub narrow : k.walk.width ≤ 16
  pub short : length s ≤ 65535
  pub more : 0 < k.walk.left + k.bound
  pub before : ℕ
  pub value : List ℕ
  pub behind : Bits
  pub at : MergeAt s (heard_in words) l k before value behind

-- ---- one step

-- a word names a line that is still to come
pub record WordThere (l : ℕ) (k : Merge) : Type 0 where
  pub some : 0 < k.bound
  pub lines : k.bound ≤ suc l

-- that line comes next; the list in the block does not have it
pub record ByWord (words : List ℕ) (l : ℕ) (k : Merge) (r : Step) : Type 0 where
  pub line : r.line + 1 ≡ k.bound
  pub stays : r.stays ≡ said (heard_in words) l r.line false
  pub walk : r.next.walk ≡ k.walk
  pub within : r.next.bound ≤ r.line
  pub quiet : Quiet (heard_in words) l r.next.bound r.line

-- the line, if it stays, and those behind it
abbrev pub resumed : Step → List ℕ → List ℕ
resumed r behind = pick r.stays (r.line ∷ behind) behind

pub record StepTo (s : List ℕ) (hs : List Word) (l before : ℕ) (ns : List ℕ) (u : Bits) (r : Step) : Type 0 where
  pub more : List ℕ
  pub at : MergeAt s hs l r.next r.line more u
  pub is : lines_below hs l before ns ≡ resumed r (lines_below hs l r.line more)

pub record StepsOn (s words : List ℕ) (l : ℕ) (k : Merge) (r : Step) : Type 0 where
  pub is : (before : ℕ) (ns : List ℕ) (u : Bits) → MergeAt s (heard_in words) l k before ns u → StepTo s (heard_in words) l before ns u r
  pub width : r.next.walk.width ≡ k.walk.width
  pub less : r.next.walk.left + r.next.bound < k.walk.left + k.bound
