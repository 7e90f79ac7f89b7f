-- Numbers in a rising list: how many are below one, and whether it is among them.
use mathlib.Core.Path.{◌≡◌, refl, sym}
use Prim.Native.Nat.{ℕ, zero, suc, ◌-◌, ◌≤◌, ◌<◌}
use native.Mathlib.Omega.{arith}
use mathlib.Core.Bool.{false, ◌||◌}
use mathlib.Core.List.{List, [], ◌∷◌}
use lib.ListN.{length}
use lib.Dec.{eqb, ltb, ltb→lt, nltb→le}
use Rattle.bits.specs.ChoiceLaws.{pick_case, eqb_true, eqb_false, eq_split}
use Rattle.orders.specs.Survive.{elem, at, RisesFrom}
use Rattle.orders.proofs.Laws.Survive.{rises_lt}
use Rattle.order_removal.specs.Rank.{below}

pub below_most : (rs : List ℕ) (n : ℕ) → below rs n ≤ length rs
below_most [] n = omega arith
below_most (r ∷ rs) n =
    let ih : below rs n ≤ length rs = below_most rs n in
    pick_case (λ (k : ℕ). k ≤ suc (length rs)) (ltb r n) _ _ (λ t. omega arith) (λ t. omega arith)

-- numbers from m on
pub below_le : (m : ℕ) (rs : List ℕ) (n : ℕ) → RisesFrom m rs → below rs n ≤ n - m
below_le m [] n h = omega arith
below_le m (r ∷ rs) n h =
    let ih : below rs n ≤ n - suc r = below_le (suc r) rs n h.1 in
    let o : m ≤ r = h.0 in
    pick_case (λ (k : ℕ). k ≤ n - m) (ltb r n) _ _ (λ t. omega (arith, ltb→lt r n t)) (λ t. omega arith)

-- no number from m on is below n, and n is not among them where it is below m
pub below_none : (m : ℕ) (rs : List ℕ) (n : ℕ) → RisesFrom m rs → n ≤ m → below rs n ≡ 0
below_none m [] n h l = refl
below_none m (r ∷ rs) n h l =
    let ih : below rs n ≡ 0 = below_none (suc r) rs n h.1 (omega (arith, h.0)) in
    pick_case (λ (k : ℕ). k ≡ 0) (ltb r n) _ _ (λ t. absurd (omega (arith, ltb→lt r n t, h.0))) (λ t. ih)

elem_none : (m : ℕ) (rs : List ℕ) (n : ℕ) → RisesFrom m rs → n < m → elem n rs ≡ false
elem_none m [] n h l = refl
elem_none m (r ∷ rs) n h l = rw (eqb_false n r (λ e. omega (arith, h.0)), elem_none (suc r) rs n h.1 (omega (arith, h.0))) refl

-- the number at place i is below n, and with it those before
pub below_more : (m : ℕ) (rs : List ℕ) (n i : ℕ) → RisesFrom m rs → i < length rs → at rs i < n → i < below rs n
below_more m [] n i h l k = absurd (omega arith)
below_more m (r ∷ rs) n zero h l k = pick_case (λ (x : ℕ). 0 < x) (ltb r n) _ _ (λ t. omega arith) (λ t. absurd (omega (arith, nltb→le r n t)))
below_more m (r ∷ rs) n (suc i) h l k =
    let ih : i < below rs n = below_more (suc r) rs n i h.1 (omega arith) k in
    let o : r < at rs i = rises_lt m (r ∷ rs) 0 (suc i) h (omega arith) l in
    pick_case (λ (x : ℕ). suc i < x) (ltb r n) _ _ (λ t. omega arith) (λ t. absurd (omega (arith, nltb→le r n t)))

-- it is not, nor are those behind it
pub below_few : (m : ℕ) (rs : List ℕ) (n i : ℕ) → RisesFrom m rs → i < length rs → n ≤ at rs i → below rs n ≤ i
below_few m [] n i h l k = absurd (omega arith)
below_few m (r ∷ rs) n zero h l k = let z : below (r ∷ rs) n ≡ 0 = below_none r (r ∷ rs) n (omega arith, h.1) k in omega arith
below_few m (r ∷ rs) n (suc i) h l k =
    let ih : below rs n ≤ i = below_few (suc r) rs n i h.1 (omega arith) k in
    pick_case (λ (x : ℕ). x ≤ suc i) (ltb r n) _ _ (λ t. omega arith) (λ t. omega arith)

-- where it would stand, it stands or not
pub elem_at : (m : ℕ) (rs : List ℕ) (n : ℕ) → RisesFrom m rs → below rs n < length rs → elem n rs ≡ eqb (at rs (below rs n)) n
elem_at m [] n h = λ l. absurd (omega arith)
elem_at m (r ∷ rs) n h =
    pick_case (λ (k : ℕ). k < suc (length rs) → (eqb n r || elem n rs) ≡ eqb (at (r ∷ rs) k) n) (ltb r n) (suc (below rs n)) (below rs n)
    (λ t l. rw (eqb_false n r (λ e. omega (arith, ltb→lt r n t))) (elem_at (suc r) rs n h.1 (omega arith)))
    (λ t l. let z : below rs n ≡ 0 = below_none (suc r) rs n h.1 (omega (arith, nltb→le r n t)) in
    rw z (first (nltb→le r n t)))
  where
    first : n ≤ r → (eqb n r || elem n rs) ≡ eqb r n
    first o =
        eq_split n r (λ e. rw (eqb_true n r e, eqb_true r n (sym e)) refl)
        (λ d. rw (eqb_false n r d, eqb_false r n (λ e. d (sym e))) (elem_none (suc r) rs n h.1 (omega arith)))

pub elem_end : (m : ℕ) (rs : List ℕ) (n : ℕ) → RisesFrom m rs → below rs n ≡ length rs → elem n rs ≡ false
elem_end m [] n h = λ l. refl
elem_end m (r ∷ rs) n h =
    pick_case (λ (k : ℕ). k ≡ suc (length rs) → (eqb n r || elem n rs) ≡ false) (ltb r n) (suc (below rs n)) (below rs n)
    (λ t l. rw (eqb_false n r (λ e. omega (arith, ltb→lt r n t))) (elem_end (suc r) rs n h.1 (omega arith)))
    (λ t l. absurd (omega (arith, below_most rs n)))
