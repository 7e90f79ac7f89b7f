-- The numbers of the calls for orders: a removal gives 1 to 16, 19 and 20, a pair order 1 to 15 and 17 to 20.
use mathlib.Core.Path.{◌≡◌, refl}
use mathlib.Core.Logic.{◌≢◌}
use Prim.Native.Nat.{ℕ}
use native.Mathlib.Omega.{arith}
use mathlib.Core.Bool.{Bool, not}
use mathlib.Core.List.{List, [], ◌∷◌}
use lib.ListN.{drop}
use lib.Dec.{T, eqb}
use mir.Facts.{eqb_no}
use Rattle.bits.specs.Choice.{within}
use Rattle.bits.specs.ChoiceLaws.{pick_case}
use Rattle.bits.specs.Lists.{All}
use Rattle.bits.specs.ListsLaws.{all_append}
use Rattle.outcome.specs.Refusals.{no_view, other_count, bad_lines, extended, no_index, already_so, too_long, no_room, bad_pores}
use Rattle.outcome.specs.Numbers.{among, Gives, removal_numbers, pair_numbers}
use Rattle.outcome.specs.Outcome.{Answers}
use Rattle.outcome.specs.declared.Answer.{Answer}
use Rattle.outcome.proofs.Numbers.{RefusedBy, among_first, room_by, answer_number, not_zero}
use Rattle.format.specs.View.{View}
use Rattle.format.specs.Record.{Record}
use Rattle.format.specs.Places.{view_at}
use Rattle.format.proofs.Laws.Numbers.{view_numbers}
use Rattle.format.proofs.Laws.Finger.{Other}
use Rattle.orders.specs.Act.{Act, remove, join, part}
use Rattle.orders.specs.Order.{Order, first_bad, tests, all_tests, verdict, ordered, order}
use Rattle.orders.specs.History.{Call, outcome}

abbrev pub numbers_of : Act → List (ℕ × ℕ)
numbers_of (remove rs) = removal_numbers
numbers_of (join a b) = pair_numbers
numbers_of (part a b) = pair_numbers

-- ---- the tests

-- each test has one of the numbers
abbrev pub TestsBy : Act → List (Bool × ℕ) → Type 0
TestsBy a = All (λ t. T (among (numbers_of a) t.1))

tests_by : (a : Act) (v : View) → TestsBy a (tests a v)
unfolding tests
tests_by (remove rs) v = (tt, (tt, (tt, tt)))
tests_by (join a b) v = (tt, (tt, (tt, tt)))
tests_by (part a b) v = (tt, (tt, (tt, tt)))

-- what is so of both lists
both : (P : List (ℕ × ℕ) → Type 0) → P removal_numbers → P pair_numbers → (a : Act) → P (numbers_of a)
both P p q (remove rs) = p
both P p q (join a b) = q
both P p q (part a b) = q

pub all_by : (o : Order) (i : ℕ) (r : Record) → TestsBy o.act (all_tests o i r)
unfolding all_tests
all_by o i r =
    let v : View = view_at r i in
    let P : Bool × ℕ → Type 0 = λ t. T (among (numbers_of o.act) t.1) in
    (both (λ ns. T (among ns other_count)) tt tt o.act, all_append P (tests o.act v) _ (tests_by o.act v) (both (λ ns. T (among ns too_long)) tt tt o.act, tt))

-- none of them is 0
pub number_there : (a : Act) (e : ℕ) → T (among (numbers_of a) e) → e ≢ 0
number_there a = not_zero (numbers_of a) (both (λ ns. T (not (among ns 0))) tt tt a)

-- what is so of every test's number is so of the first that fails
pub first_of : (P : ℕ → Type 0) (ts : List (Bool × ℕ)) → All (λ t. P t.1) ts → first_bad ts ≢ 0 → P (first_bad ts)
first_of P [] h n = absurd (n refl)
first_of P (t ∷ ts) h n = pick_case (λ (x : ℕ). x ≢ 0 → P x) t.0 _ _ (λ u. first_of P ts h.1) (λ u _. h.0) n

-- what is so of 14 to 19 and of 26 is so of an order's own numbers
own_numbers : (P : ℕ → Type 0) → P other_count → P bad_lines → P extended → P bad_pores → P no_index → P already_so → P too_long
    → (o : Order) (i : ℕ) (r : Record) → verdict o i r ≢ 0 → P (verdict o i r)
unfolding verdict all_tests tests
own_numbers P count lines segments pores index so long o i r =
    first_of P (all_tests o i r) (count, all_append (λ t. P t.1) (tests o.act v) _ (own o.act) (long, tt))
  where
    v : View
    v = view_at r i

    own : (a : Act) → All (λ t. P t.1) (tests a v)
    own (remove rs) = (lines, (segments, (pores, tt)))
    own (join a b) = (index, (lines, (so, tt)))
    own (part a b) = (index, (lines, (so, tt)))

-- they are above 12
pub verdict_above : (o : Order) (i : ℕ) (r : Record) → verdict o i r ≢ 0 → T (not (within 2 12 (verdict o i r)))
verdict_above = own_numbers (λ e. T (not (within 2 12 e))) tt tt tt tt tt tt tt

-- nor is one 13
pub ordered_other : (o : Order) (i : ℕ) (r : Record) → Other (ordered o i r)
ordered_other o i r =
    pick_case Other (eqb (verdict o i r) 0) _ _ (λ t. tt)
    (λ t. own_numbers (λ e. e ≢ no_view) (omega arith) (omega arith) (omega arith) (omega arith) (omega arith) (omega arith) (omega arith) o i r (eqb_no t))

-- ---- the calls

pub order_by : (o : Order) (bytes : List ℕ) → RefusedBy (numbers_of o.act) (order o bytes)
unfolding order verdict
order_by o =
    both (λ ns. ((i : ℕ) (r : Record) → RefusedBy ns (ordered o i r)) → (bytes : List ℕ) → RefusedBy ns (order o bytes))
    (view_numbers removal_numbers (λ e l h. among_first 1 16 (drop 1 removal_numbers) e l (omega arith)) o.view (ordered o))
    (view_numbers pair_numbers (λ e l h. among_first 1 15 (drop 1 pair_numbers) e l (omega arith)) o.view (ordered o)) o.act λ i r.
    pick_case (RefusedBy (numbers_of o.act)) (eqb (verdict o i r) 0) _ _ (λ t. tt)
    (λ t. first_of (λ e. T (among (numbers_of o.act) e)) (all_tests o i r) (all_by o i r) (eqb_no t))

numbers_room : (a : Act) → T (among (numbers_of a) no_room)
numbers_room a = both (λ ns. T (among ns no_room)) tt tt a

pub outcome_by : (c : Call) (bytes : List ℕ) → RefusedBy (numbers_of c.order.act) (outcome c bytes)
unfolding outcome
outcome_by c bytes = room_by (numbers_of c.order.act) (numbers_room c.order.act) c.lent (order c.order bytes) (order_by c.order bytes)

module _ (o : Order) (bytes : List ℕ) {before after : List ℕ} {a : Answer} (h : Answers (order o bytes) before after a) where
  order_numbers : Gives (numbers_of o.act) a.number
  order_numbers = answer_number (numbers_of o.act) (numbers_room o.act) (order_by o bytes) h

  pub removal_numbers_lem : {rs : List ℕ} → o.act ≡ remove rs → Gives removal_numbers a.number
  removal_numbers_lem e = rw e at order_numbers

  pub join_numbers : {p q : ℕ} → o.act ≡ join p q → Gives pair_numbers a.number
  join_numbers e = rw e at order_numbers

  pub part_numbers : {p q : ℕ} → o.act ≡ part p q → Gives pair_numbers a.number
  part_numbers e = rw e at order_numbers
