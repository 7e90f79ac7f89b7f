-- When an order is accepted: exactly if its view is there and has the count that the order names, the order's own tests pass, and
-- the new record is not too long. So the table of refusals leaves no other way to be refused.
use mathlib.Core.Path.{◌≡◌, refl, ◌∙◌}
use mathlib.Core.Logic.{◌≢◌}
use Prim.Native.Nat.{ℕ, ◌<◌}
use mathlib.Core.Bool.{Bool, ◌&&◌}
use mathlib.Core.List.{List, [], ◌∷◌}
use lib.Dec.{T, leb, ltb, eqb, leb→le, le→leb, ltb→lt, eqb→eq}
use mir.Facts.{and_yes, yes_eqb, no_eqb}
use Rattle.bits.specs.ChoiceLaws.{pick_yes, pick_no, pick_split}
use Rattle.bits.specs.Lists.{All}
use Rattle.bits.specs.ListsLaws.{all_front, all_rest, all_append}
use Rattle.outcome.specs.Refusals.{other_count}
use Rattle.outcome.specs.Numbers.{among}
use Rattle.format.specs.Limits.{most_bytes}
use Rattle.format.specs.View.{View}
use Rattle.format.specs.Record.{Record, size}
use Rattle.format.specs.Places.{count, view_at}
use Rattle.format.specs.Named.{Means}
use Rattle.orders.specs.Order.{Order, edited, first_bad, tests, all_tests, verdict, Pass, Accepted}
use Rattle.orders.proofs.Laws.Numbers.{numbers_of, all_by, number_there}

-- ---- tests, one after another

pub pass_zero : (ts : List (Bool × ℕ)) → Pass ts → first_bad ts ≡ 0
pass_zero [] h = refl
pass_zero (t ∷ ts) h = pick_yes t.0 _ _ h.0 ∙ pass_zero ts h.1

-- no test has the number 0, which says that all passed
pub zero_pass : (P : ℕ → Type 0) → ((e : ℕ) → P e → e ≢ 0) → (ts : List (Bool × ℕ)) → All (λ t. P t.1) ts → first_bad ts ≡ 0
    → Pass ts
zero_pass P f [] n p = tt
zero_pass P f (t ∷ ts) n p = pick_split t.0 _ _ p (λ u e. (u, zero_pass P f ts n.1 e)) (λ u e. absurd (f t.1 n.0 e))

-- what the test of a pair's lines says
pub both_lines : (a b n : ℕ) → T (ltb a n && ltb b n) → (a < n) × (b < n)
both_lines a b n t = let (h, k) = and_yes (ltb a n) (ltb b n) t in (ltb→lt a n h, ltb→lt b n k)

-- ---- an order

pub accepted : (o : Order) (r : Record) {i : ℕ} → Means o.view r i → verdict o i r ≡ 0 → Accepted o i r
unfolding verdict all_tests
accepted o r {i} m p =
    let h = zero_pass (λ e. T (among (numbers_of o.act) e)) (number_there o.act) (all_tests o i r) (all_by o i r) p in
    let v : View = view_at r i in
    let n : ℕ = size (edited i o.act r) in
    record {
      means = m;
      count = eqb→eq (count v) o.count h.0;
      passes = all_front (λ t. T t.0) (tests o.act v) _ h.1;
      small = leb→le n most_bytes (all_rest (λ t. T t.0) (tests o.act v) _ h.1).0;
    }

pub verdict_zero : (o : Order) (i : ℕ) (r : Record) → Accepted o i r → verdict o i r ≡ 0
unfolding verdict all_tests
verdict_zero o i r a =
    let n : ℕ = size (edited i o.act r) in
    let small : T (leb n most_bytes) = le→leb n most_bytes a.small in
    pass_zero (all_tests o i r) (yes_eqb a.count, all_append (λ t. T t.0) (tests o.act (view_at r i)) _ a.passes (small, tt))

-- an order made for another count
pub verdict_count : (o : Order) (i : ℕ) (r : Record) → count (view_at r i) ≢ o.count → verdict o i r ≡ other_count
unfolding verdict all_tests
verdict_count o i r n = pick_no (eqb (count (view_at r i)) o.count) _ _ (no_eqb n)
