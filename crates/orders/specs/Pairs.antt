-- Many pairs in one call. "Its outcome is that of giving them singly, each to the record the one before left. If any would be refused
-- that way, 19 and 20 included, the call gives that number with that order's place in the list, and writes nothing."
use Rattle.std.specs.Prelude.{ℕ, suc, Bool, List, [], ◌∷◌, map, length, eqb}
use Rattle.bits.specs.Choice.{pick}
use Rattle.outcome.specs.Refusals.{other_count, no_index, bad_pairs}
use Rattle.outcome.specs.Outcome.{Outcome, refused, given}
use Rattle.format.specs.View.{View}
use Rattle.format.specs.Record.{Record}
use Rattle.format.specs.Places.{view_at, count}
use Rattle.format.specs.Call.{on_view}
use Rattle.format.specs.declared.ViewName.{ViewName}
use Rattle.orders.specs.Act.{Word, indexed?}
use Rattle.orders.specs.Order.{first_bad}
use Rattle.orders.specs.Listed.{words, shape_ok}
use Rattle.orders.specs.Called.{word_order}
use Rattle.orders.specs.History.{Call, outcome}

-- list: the bytes of the list; lent: the length of the second buffer
pub record PairsCall : Type 0 where
  pub view : ViewName
  pub count : ℕ
  pub list : List ℕ
  pub lent : ℕ

-- the call as it is made, with these bytes in the second buffer
abbrev pub pairs_call : (view : ViewName) → (count : ℕ) → (list before : List ℕ) → PairsCall
pairs_call view count list before = record { view = view; count = count; list = list; lent = length before }

-- ---- the orders of the list, given singly

-- each is lent the same room
abbrev pub word_call : (view : ViewName) → (count lent : ℕ) → Word → Call
word_call view count lent w = record { order = word_order view count w; lent = lent }

abbrev pub singly : PairsCall → List Call
singly m = map (word_call m.view m.count m.lent) (words m.list)

-- ---- one after another

-- the order at place i of the list had this outcome; others is what comes of those behind it
abbrev pub onward : ℕ → Outcome ℕ → (List ℕ → Outcome ℕ) → Outcome ℕ
onward i (refused e p) others = refused e i
onward i (given new) others = others new

-- each on the record that the one before left; the first has place i in the list, and a refusal's place is its order's
abbrev pub in_turn : ℕ → List Call → List ℕ → Outcome ℕ
in_turn i [] bytes = given bytes
in_turn i (c ∷ cs) bytes = onward i (outcome c bytes) (in_turn (suc i) cs)

-- ---- the call

-- "Refusals: 25, empty list or another shape, after 17; the rest per order as in 01": what is tested before any order is tried
unfoldable pub pairs_tests : PairsCall → View → List (Bool × ℕ)
pairs_tests m v = (eqb (count v) m.count, other_count) ∷ (indexed? v, no_index) ∷ (shape_ok m.list, bad_pairs) ∷ []

unfoldable pub pairs_verdict : PairsCall → ℕ → Record → ℕ
pairs_verdict m i r = first_bad (pairs_tests m (view_at r i))

-- r is the record that the bytes are, and the view's place is i
abbrev pub pairs_on : PairsCall → List ℕ → ℕ → Record → Outcome ℕ
pairs_on m bytes i r = pick (eqb (pairs_verdict m i r) 0) (in_turn 0 (singly m) bytes) (refused (pairs_verdict m i r) 0)

-- 13 where the view is not there
unfoldable pub pairs : PairsCall → List ℕ → Outcome ℕ
pairs m bytes = on_view m.view (pairs_on m bytes) bytes
