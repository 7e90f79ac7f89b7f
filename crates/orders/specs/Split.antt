-- Work that is split, and what it comes to: one removal behind another, calls on two views, a pair that is joined and parted again,
-- and the bytes of one view by themselves. These are the words of the promises about split work.
use Rattle.std.specs.Prelude.{◌≡◌, ℕ, not, ◌||◌, List, length, T}
use Rattle.std.proofs.Math.Option.{map}
use Rattle.std.proofs.Math.Seq.{slice}
use Rattle.bits.specs.Lists.{All}
use Rattle.outcome.specs.Outcome.{Outcome, given}
use Rattle.format.specs.View.{View}
use Rattle.format.specs.Call.{on_view}
use Rattle.format.specs.declared.ViewName.{ViewName}
use Rattle.orders.specs.Survive.{elem, survivors, renumber}
use Rattle.orders.specs.Least.{index_of}
use Rattle.orders.specs.Act.{lists}
use Rattle.orders.specs.Order.{lines_ok}
use Rattle.orders.specs.AnyCall.{AnyCall, one, list}
use Rattle.orders.specs.Bytes.{view_part}

-- ---- one removal behind another

-- how many of n lines a removal of rs leaves: the count that the next order is made for
abbrev pub count_after : (n : ℕ) → (rs : List ℕ) → ℕ
count_after n rs = length (survivors n rs)

-- "set B, renumbered": the lines ss, each by its place among those that a removal of rs leaves
abbrev pub renumbered : (n : ℕ) → (rs ss : List ℕ) → List ℕ
renumbered n rs ss = renumber (survivors n rs) ss

-- "both at once": ss and both are lists for a removal from n lines, no line is in rs and in ss, and both has the lines of the two
pub record Together (n : ℕ) (rs ss both : List ℕ) : Type 0 where
  pub second : T (lines_ok n ss)
  pub once : T (lines_ok n both)
  pub apart : (line : ℕ) → T (elem line rs) → T (not (elem line ss))
  pub has : (line : ℕ) → elem line both ≡ elem line rs || elem line ss

-- ---- calls on one view

abbrev pub view_of : AnyCall → ViewName
view_of (one c) = c.order.view
view_of (list m) = m.view

abbrev pub AllOn : ViewName → List AnyCall → Type 0
AllOn view qs = All (λ q. view_of q ≡ view) qs

-- ---- "the record whose view has its least width"

-- a view with the index that its lists call for, and otherwise as it was
abbrev pub narrowed : View → View
narrowed v = record { head = v.head; lines = v.lines; index = map index_of (lists v); segments = v.segments }

-- ---- "a view's bytes" and "the header's widths"

-- all bytes of the view with that name, from its header to its last segment; 13 where no view has it
unfoldable pub view_bytes : ViewName → List ℕ → Outcome ℕ
view_bytes view bytes = on_view view (λ i r. given (view_part r i bytes)) bytes

-- bytes 16 to 18: c, b and k
abbrev pub width_bytes : List ℕ → List ℕ
width_bytes bytes = slice 16 19 bytes
