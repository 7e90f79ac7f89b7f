-- What an order does to its view. Being neighbours is mutual and is written once, at the higher line.
use Rattle.std.specs.Prelude.{◌≡◌, ℕ, min, max, Bool, List, [], ◌∷◌, map, get_or, set, ltb, eqb}
use Rattle.std.proofs.Math.Option
use Rattle.std.proofs.Math.Option.{Option, none, some}
use Rattle.bits.specs.Choice.{pick, some?}
use Rattle.format.specs.Line.{Line}
use Rattle.format.specs.Index.{Index}
use Rattle.format.specs.Segments.{Segment}
use Rattle.format.specs.View.{View}
use Rattle.format.specs.Places.{count, line_at}
use Rattle.pores.specs.Keep.{keep_segments}
use Rattle.orders.specs.Survive.{elem, survivors, renumber}
use Rattle.orders.specs.Least.{least_width, index_of}

pub data Act : Type 0 where
  remove : List ℕ → Act
  join : ℕ → ℕ → Act
  part : ℕ → ℕ → Act

-- what is said about two lines: that they be joined, or parted
pub record Word : Type 0 where
  pub one : ℕ
  pub other : ℕ
  pub joins : Bool

-- ---- what a view holds

-- the lists of neighbours, where there is an index
abbrev pub lists : View → Option (List (List ℕ))
lists v = Option.map (λ i. i.lists) v.index

abbrev pub indexed? : View → Bool
indexed? v = some? v.index

-- an index has its least width, where there is one
abbrev pub LeastWide : View → Type 0
LeastWide v = (i : Index) → v.index ≡ some i → i.width ≡ least_width i.lists

-- line i's list; a view without an index has empty ones
abbrev pub list_at : Option (List (List ℕ)) → ℕ → List ℕ
list_at none i = []
list_at (some ls) i = get_or ls i []

-- lines i and j are neighbours
unfoldable pub near : View → ℕ → ℕ → Bool
near v i j = elem (min i j) (list_at (lists v) (max i j))

-- ---- what an order makes of it

-- put in, highest first
abbrev pub insert : ℕ → List ℕ → List ℕ
insert m [] = m ∷ []
insert m (n ∷ ns) = pick (ltb n m) (m ∷ n ∷ ns) (n ∷ insert m ns)

abbrev pub delete : ℕ → List ℕ → List ℕ
delete m [] = []
delete m (n ∷ ns) = pick (eqb m n) (delete m ns) (n ∷ delete m ns)

abbrev pub change : (List ℕ → List ℕ) → ℕ → List (List ℕ) → List (List ℕ)
change f i ls = set ls i (f (get_or ls i []))

-- of n lines
abbrev pub new_lists : Act → ℕ → List (List ℕ) → List (List ℕ)
new_lists (remove rs) n ls = map (λ i. renumber (survivors n rs) (get_or ls i [])) (survivors n rs)
new_lists (join a b) n ls = change (insert (min a b)) (max a b) ls
new_lists (part a b) n ls = change (delete (min a b)) (max a b) ls

abbrev pub new_lines : Act → View → List Line
new_lines (remove rs) v = map (line_at v) (survivors (count v) rs)
new_lines (join a b) v = v.lines
new_lines (part a b) v = v.lines

-- a removal "drops the removed lines' pores and keeps the others"; all else of the segments stays
abbrev pub new_segments : Act → View → List Segment
new_segments (remove rs) v = keep_segments (count v) (survivors (count v) rs) v.segments
new_segments (join a b) v = v.segments
new_segments (part a b) v = v.segments

-- the header stays; an index gets its least width
unfoldable pub after : Act → View → View
after a v =
    record { head = v.head; lines = new_lines a v; index = Option.map (λ ls. index_of (new_lists a (count v) ls)) (lists v); segments = new_segments a v }
