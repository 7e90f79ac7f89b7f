-- One list after an order: the lines that the words about its line leave, without those of a removal and renumbered. What the code
-- that goes over one list x of the index block s asks and answers: whatever lines the list has in the block, the answer is about those
-- that stay.
use Rattle.std.specs.Prelude.{◌≡◌, ℕ, suc, ◌-◌, ◌≤◌, ◌<◌, Bool, not, ◌||◌, Option, Some, None, List, [], ◌∷◌, length, T}
use Rattle.bits.specs.Choice.{pick}
use Rattle.bits.specs.Bits.{Bits}
use Rattle.differences.specs.Differences.{Falls, diffs}
use Rattle.format.specs.Index.{FitsList, neighbours}
use Rattle.put_bits.specs.Put.{Puts, Room}
use Rattle.orders.specs.Survive.{elem}
use Rattle.orders.specs.Least.{max_of}
use Rattle.orders.specs.Listed.{removal_lines}
use Rattle.order_removal.specs.Rank.{below, Rising}
use Rattle.order_words.specs.After.{heard_in, list_after}
use Rattle.order_walk.specs.Merge.{MergeAt}
use Rattle.order_lists.specs.declared.list.OldList.{OldList}
use Rattle.order_lists.specs.declared.list.Numbers.{Numbers}

-- ---- what becomes of a line

-- the words let line n stay or not; it is gone if they do not, or if the removal of rs names it. One that stays has a new number.
abbrev pub gone : List ℕ → (stays : Bool) → ℕ → Bool
gone rs stays n = not stays || elem n rs

abbrev pub Fares : List ℕ → (stays : Bool) → ℕ → Option ℕ → Type 0
Fares rs stays n (Some m) = T (not (gone rs stays n)) × (m ≡ n - below rs n)
Fares rs stays n None = T (gone rs stays n)

-- ---- the list

-- the lines that a removal of rs leaves, by their new numbers
abbrev pub stayed : List ℕ → List ℕ → List ℕ
stayed rs [] = []
stayed rs (n ∷ ns) = pick (elem n rs) (stayed rs ns) ((n - below rs n) ∷ stayed rs ns)

-- what the lines ns of the list x become
abbrev pub become : OldList → (words removal : List ℕ) → List ℕ → List ℕ
become x words removal ns = stayed (removal_lines removal) (list_after (heard_in words) x.line ns)

-- the list stands there, and all of it is still to come
abbrev pub ListAt : (s words : List ℕ) → OldList → List ℕ → Bits → Type 0
ListAt s words x ns u = MergeAt s (heard_in words) x.line x.from (suc x.line) ns u

pub record ListThere (s : List ℕ) (x : OldList) (words removal : List ℕ) : Type 0 where
  pub narrow : x.from.walk.width ≤ 16
  pub short : length s ≤ 65535
  pub rising : Rising removal
  pub few : x.from.walk.left ≤ 65535
  pub lines : x.line < 65536
  pub value : List ℕ
  pub behind : Bits
  pub at : ListAt s words x value behind
  pub falls : Falls 0 x.own (become x words removal value)

pub record Numbered (s : List ℕ) (x : OldList) (words removal : List ℕ) (r : Numbers) : Type 0 where
  pub is : (ns : List ℕ) (u : Bits) → ListAt s words x ns u → Falls 0 x.own (become x words removal ns)
      → (r.count ≡ length (become x words removal ns)) × (r.most ≡ max_of (diffs x.own (become x words removal ns)))

-- ---- the list put at a width

pub record PutThere (s : List ℕ) (x : OldList) (words removal : List ℕ) (width : ℕ) (out : List ℕ) (at : ℕ) : Type 0 where
  pub there : ListThere s x words removal
  pub narrow : width ≤ 16
  pub fits : FitsList width x.own (become x words removal there.value)
  pub room : Room out at (length ((neighbours width x.own).enc (become x words removal there.value)))

pub record ListPut (s : List ℕ) (x : OldList) (words removal : List ℕ) (width : ℕ) (old : List ℕ) (at : ℕ) (now : List ℕ) (r : ℕ) : Type 0 where
  pub is : (ns : List ℕ) (u : Bits) → ListAt s words x ns u → FitsList width x.own (become x words removal ns)
      → Puts ((neighbours width x.own).enc (become x words removal ns)) old at now r
