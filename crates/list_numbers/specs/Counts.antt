-- What the code that counts for the listing asks of a view of an accepted record, and what it answers: whatever view stands there,
-- the numbers are those that the listing has of it.
use Rattle.std.specs.Prelude as std
use Rattle.std.specs.Prelude.{◌≡◌, ℕ, ◌≤◌, List, length}
use Rattle.std.proofs.Math.Option
use Rattle.std.proofs.Math.Option.{Option, none, some}
use Rattle.bits.specs.Lists.{total}
use Rattle.bits.specs.OfBlock.{OfBlock}
use Rattle.format.specs.Index.{index_block}
use Rattle.format.specs.View.{View}
use Rattle.format.specs.declared.Widths.{Widths}
use Rattle.format.specs.Record.{Narrow}
use Rattle.find_parts.specs.Stands.{ViewAt}
use Rattle.list_numbers.specs.Listing.{Listed, listed}
use Rattle.list_numbers.specs.declared.Listed as d

-- ---- the pairs in the index block s of a view with `lines` lines

-- none where it is empty
abbrev pub pairs_of : std.Option ℕ → Option ℕ
pairs_of std.None = none
pairs_of (std.Some n) = some n

abbrev pub PairsCounted : (lines : ℕ) → List ℕ → std.Option ℕ → Type 0
PairsCounted lines s n = OfBlock (index_block lines) s (λ o. pairs_of n ≡ Option.map (λ i. total length i.lists) o)

-- ---- the view that starts at byte a

pub record ListedThere (w : Widths) (s : List ℕ) (a : ℕ) : Type 0 where
  pub narrow : Narrow w
  pub short : length s ≤ 32768
  pub value : View
  pub at : ViewAt w s a value

abbrev pub numbers_of : d.Listed → Listed
numbers_of x = record { position = x.position; number = x.number; lines = x.lines; pairs = pairs_of x.pairs; segments = x.segments }

pub record ListedAt (w : Widths) (s : List ℕ) (a : ℕ) (x : d.Listed) : Type 0 where
  pub is : (v : View) (at : ViewAt w s a v) → (numbers_of x ≡ listed v) × (x.next ≡ at.behind)
