-- When an order on a view that is there is refused, and with which number: the first test that fails gives it. And what a call for
-- the order then gives.
use mathlib.Core.Path.{◌≡◌, ap, ◌∙◌}
use Prim.Native.Nat.{ℕ, ◌<◌}
use native.Mathlib.Omega.{arith}
use mathlib.Core.Bool.{Bool, not}
use mathlib.Core.List.{List, [], ◌∷◌, ◌++◌, append_assoc}
use lib.Dec.{T, leb, eqb}
use mir.Facts.{no_leb, yes_eqb, no_eqb}
use Rattle.bits.specs.ChoiceLaws.{pick_yes, pick_no}
use Rattle.bits.specs.Codec.{got}
use Rattle.outcome.specs.Refusals.{too_long}
use Rattle.outcome.specs.Outcome.{refused, given}
use Rattle.format.specs.Limits.{most_bytes}
use Rattle.format.specs.Record.{Record, read, size, write}
use Rattle.format.specs.Places.{view_at, count}
use Rattle.format.specs.Named.{Means}
use Rattle.format.proofs.Laws.Call.{on_view_lem}
use Rattle.orders.specs.Order.{Order, edited, first_bad, tests, all_tests, verdict, Pass, ordered, order}

-- those before it pass
pub first_fail : (ts : List (Bool × ℕ)) (b : Bool) (n : ℕ) (us : List (Bool × ℕ)) → Pass ts → T (not b) → first_bad (ts ++ (b, n) ∷ us) ≡ n
first_fail [] b n us h k = pick_no b _ _ k
first_fail (t ∷ ts) b n us h k = pick_yes t.0 _ _ h.0 ∙ first_fail ts b n us h.1 k

module _ (o : Order) (i : ℕ) (r : Record) where
  module _ (c : count (view_at r i) ≡ o.count) where
    abbrev own : List (Bool × ℕ)
    own = tests o.act (view_at r i)

    abbrev last : Bool
    last = leb (size (edited i o.act r)) most_bytes

    -- the count is right: the first of the others that fails gives the number
    pub verdict_behind : verdict o i r ≡ first_bad (own ++ (last, too_long) ∷ [])
    unfolding verdict all_tests
    verdict_behind = pick_yes (eqb (count (view_at r i)) o.count) _ _ (yes_eqb c)

    -- one of the order's own tests fails
    pub verdict_own : (ts : List (Bool × ℕ)) (b : Bool) (n : ℕ) (us : List (Bool × ℕ)) → tests o.act (view_at r i) ≡ ts ++ (b, n) ∷ us → Pass ts → T (not b)
        → verdict o i r ≡ n
    verdict_own ts b n us e h k =
        verdict_behind ∙ ap (λ (xs : List (Bool × ℕ)). first_bad (xs ++ (last, too_long) ∷ [])) e ∙ ap first_bad (append_assoc ts ((b, n) ∷ us) ((last, too_long) ∷ []))
        ∙ first_fail ts b n (us ++ (last, too_long) ∷ []) h k

    pub verdict_long : Pass own → most_bytes < size (edited i o.act r) → verdict o i r ≡ too_long
    verdict_long h k = verdict_behind ∙ first_fail own last too_long [] h (no_leb k)

-- ---- the call on a record

module _ (o : Order) (s : List ℕ) {r : Record} (e : read s ≡ got r []) {i : ℕ} (m : Means o.view r i) where
  pub order_refused : (n : ℕ) → verdict o i r ≡ n → 0 < n → order o s ≡ refused n 0
  unfolding order
  order_refused n v k =
      on_view_lem o.view (ordered o) s e m
      ∙ pick_no (eqb (verdict o i r) 0) _ _ (no_eqb {a = verdict o i r} {b = 0} (λ z. absurd (omega (arith, v, z, k)))) ∙ ap (λ (k : ℕ). refused k 0) v

  pub order_given : verdict o i r ≡ 0 → order o s ≡ given (write (edited i o.act r))
  unfolding order
  order_given v = on_view_lem o.view (ordered o) s e m ∙ pick_yes (eqb (verdict o i r) 0) _ _ (yes_eqb v)
