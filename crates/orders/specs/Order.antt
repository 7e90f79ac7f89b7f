-- An order on a record: when it is refused (14 to 19 and 26; 13 is for the view that it names), the record it leaves, the outcome of the
-- call, and the record that then holds. An order names "the view by finger position and view number", and "the line count it was made
-- for". What it is about is told by the place of that view.
use Rattle.std.specs.Prelude.{◌≡◌, ℕ, suc, ◌≤◌, Bool, true, not, ◌&&◌, ◌||◌, List, [], ◌∷◌, ◌++◌, length, take, T, leb, ltb, eqb}
use Rattle.bits.specs.Choice.{pick}
use Rattle.bits.specs.Lists.{All, every, empty?}
use Rattle.outcome.specs.Refusals.{other_count, bad_lines, extended, no_index, already_so, too_long, bad_pores}
use Rattle.outcome.specs.Outcome.{Outcome, refused, given}
use Rattle.format.specs.Limits.{most_bytes}
use Rattle.format.specs.Segments.{Segment, is_quality, is_pores}
use Rattle.format.specs.View.{View}
use Rattle.format.specs.Record.{Record, write, size}
use Rattle.format.specs.Places.{view_at, with_view, count}
use Rattle.format.specs.Named.{Means}
use Rattle.format.specs.Call.{on_view}
use Rattle.format.specs.declared.ViewName.{ViewName}
use Rattle.pores.specs.Keep.{all_pores_right}
use Rattle.orders.specs.Act.{Act, remove, join, part, indexed?, near, after}

pub record Order : Type 0 where
  pub view : ViewName
  pub count : ℕ
  pub act : Act

-- ---- the record that an order on view i leaves

unfoldable pub edited : ℕ → Act → Record → Record
edited i a r = with_view r i (after a (view_at r i))

-- ---- when it is refused

-- the first test that fails gives its number; 0 where all pass
abbrev pub first_bad : List (Bool × ℕ) → ℕ
first_bad [] = 0
first_bad (t ∷ ts) = pick t.0 (first_bad ts) t.1

-- strictly rising, each at least m and below n
abbrev pub rises_ok : ℕ → ℕ → List ℕ → Bool
rises_ok m n [] = true
rises_ok m n (r ∷ rs) = leb m r && ltb r n && rises_ok (suc r) n rs

-- "removal list empty, not rising, or a line number not below the count": 15 where it is not so; n is the count
abbrev pub lines_ok : ℕ → List ℕ → Bool
lines_ok n rs = not (empty? rs) && rises_ok 0 n rs

-- "refusal 16 is given only where some segment has another type": each segment of the view is one of local quality or of pores
abbrev pub carried : Segment → Bool
carried g = is_quality g || is_pores g

abbrev pub all_carried : List Segment → Bool
all_carried gs = every carried gs

-- "removal 15, 16; pair 17, 15, 18"; "a removal meeting such a payload gives 26, after 16"
unfoldable pub tests : Act → View → List (Bool × ℕ)
tests (remove rs) v =
    (lines_ok (count v) rs, bad_lines) ∷ (all_carried v.segments, extended) ∷ (all_pores_right (count v) v.segments, bad_pores) ∷ []
tests (join a b) v = (indexed? v, no_index) ∷ (ltb a (count v) && ltb b (count v), bad_lines) ∷ (not (near v a b), already_so) ∷ []
tests (part a b) v = (indexed? v, no_index) ∷ (ltb a (count v) && ltb b (count v), bad_lines) ∷ (near v a b, already_so) ∷ []

-- "Orders: 13, 14, then removal 15, 16; pair 17, 15, 18; then 19"; 13 is for the view, and 26 comes after 16
unfoldable pub all_tests : Order → ℕ → Record → List (Bool × ℕ)
all_tests o i r =
    (eqb (count (view_at r i)) o.count, other_count) ∷ tests o.act (view_at r i) ++ (leb (size (edited i o.act r)) most_bytes, too_long) ∷ []

unfoldable pub verdict : Order → ℕ → Record → ℕ
verdict o i r = first_bad (all_tests o i r)

-- ---- when it is accepted

abbrev pub Pass : List (Bool × ℕ) → Type 0
Pass = All (λ t. T t.0)

-- its view is view i and has the count that it was made for, its own tests pass, and the new record is not too long
pub record Accepted (o : Order) (i : ℕ) (r : Record) : Type 0 where
  pub means : Means o.view r i
  pub count : count (view_at r i) ≡ o.count
  pub passes : Pass (tests o.act (view_at r i))
  pub small : size (edited i o.act r) ≤ most_bytes

-- ---- the call

abbrev pub ordered : Order → ℕ → Record → Outcome ℕ
ordered o i r = pick (eqb (verdict o i r) 0) (given (write (edited i o.act r))) (refused (verdict o i r) 0)

-- 13 where the view is not there; 20 comes with the room that is lent
unfoldable pub order : Order → List ℕ → Outcome ℕ
order o = on_view o.view (ordered o)

-- "the second buffer's first bytes if the number is 0 and the length fits it, else the whole old record"
abbrev pub second_holds : List ℕ → ℕ → ℕ → Bool
second_holds second number n = eqb number 0 && leb n (length second)

unfoldable pub holds : List ℕ → List ℕ → ℕ → ℕ → List ℕ
holds old second number n = pick (second_holds second number n) (take n second) old
