-- The new number of a line that stays is its old one less the lines of the removal that are before it.
use mathlib.Core.Path.{◌≡◌, refl, sym, ap, ◌∙◌}
use Prim.Native.Nat.{ℕ, zero, suc, ◌+◌, ◌-◌, ◌≤◌, ◌<◌}
use native.Mathlib.Omega.{arith}
use mathlib.Core.Bool.{Bool, true, false, not}
use mathlib.Core.Option.{none, some, map}
use mathlib.Core.List.{List, [], ◌∷◌}
use lib.Dec.{T, ltb}
use mir.Facts.{yes_ltb, no_ltb}
use Rattle.bits.specs.Choice.{pick}
use Rattle.bits.specs.ChoiceLaws.{pick_case, pick_yes, pick_no, eqb_true, eqb_false, split, eq_split, T_true, T_false}
use Rattle.orders.specs.Survive.{elem, up_from, without, survivors, place, RisesFrom}
use Rattle.orders.proofs.Laws.Survive.{up_from_rises, without_rises}
use Rattle.order_removal.specs.Rank.{below}
use Rattle.order_removal.proofs.Laws.Rank.{below_none}

-- ---- one line further

below_next : (m : ℕ) (rs : List ℕ) (i : ℕ) → RisesFrom m rs → below rs (suc i) ≡ pick (elem i rs) (suc (below rs i)) (below rs i)
below_next m [] i h = refl
below_next m (r ∷ rs) i h =
    let ih = below_next (suc r) rs i h.1 in
    split (suc r) i
    (λ l. rw (yes r (suc i) (omega arith), yes r i (omega arith), eqb_false i r (λ e. omega arith), ih) (lift (elem i rs)))
    (λ l. eq_split i r
    (λ e. rw (yes r (suc i) (omega arith), no r i (omega arith), eqb_true i r e, below_none (suc r) rs (suc i) h.1 (omega arith), below_none (suc r) rs i h.1 (omega arith)) refl)
    (λ d. rw (no r (suc i) (omega arith), no r i (omega arith), eqb_false i r d, ih) refl))
  where
    yes : (a b : ℕ) → a < b → ltb a b ≡ true
    yes a b l = T_true (ltb a b) (yes_ltb l)

    no : (a b : ℕ) → b ≤ a → ltb a b ≡ false
    no a b l = T_false (ltb a b) (no_ltb l)

    lift : (b : Bool) → suc (pick b (suc (below rs i)) (below rs i)) ≡ pick b (suc (suc (below rs i))) (suc (below rs i))
    lift true = refl
    lift false = refl

further_gone : (i m a b c : ℕ) → i < m → b ≡ suc a → b ≤ c → c ≤ b + (m - suc i) → m - suc i - (c - b) ≡ m - i - (c - a)
further_gone i m a b c l e f g = omega arith

further_stays : (i m a b c : ℕ) → i < m → b ≡ a → b ≤ c → c ≤ b + (m - suc i) → suc (m - suc i - (c - b)) ≡ m - i - (c - a)
further_stays i m a b c l e f g = omega arith

module _ (rs : List ℕ) (h : RisesFrom 0 rs) where
  step : (i : ℕ) → (below rs i ≤ below rs (suc i)) × (below rs (suc i) ≤ suc (below rs i))
  step i =
      let e = below_next 0 rs i h in
      pick_case (λ (n : ℕ). below rs (suc i) ≡ n → (below rs i ≤ below rs (suc i)) × (below rs (suc i) ≤ suc (below rs i))) (elem i rs) _ _
      (λ t z. (omega arith, omega arith)) (λ t z. (omega arith, omega arith)) e

  gap : (i k : ℕ) → (below rs i ≤ below rs (i + k)) × (below rs (i + k) ≤ below rs i + k)
  gap i zero = let z : i + 0 ≡ i = omega arith in rw z (omega arith, omega arith)
  gap i (suc k) =
      let z : i + suc k ≡ suc (i + k) = omega arith in
      let (a, b) = gap i k in
      let (c, d) = step (i + k) in
      rw z (omega arith, omega arith)

  between : (i m : ℕ) → i ≤ m → (below rs i ≤ below rs m) × (below rs m ≤ below rs i + (m - i))
  between i m l = let z : i + (m - i) ≡ m = omega arith in rw z at (gap i (m - i))

  -- ---- the place of a line among those that stay, of k lines from i on

  place_none : (n : ℕ) (xs : List ℕ) (m : ℕ) → RisesFrom n xs → m < n → place xs m ≡ none
  place_none n [] m r l = refl
  place_none n (x ∷ xs) m r l = rw (eqb_false x m (λ e. omega (arith, r.0)), place_none (suc x) xs m r.1 (omega (arith, r.0))) refl

  abbrev number : ℕ → ℕ → ℕ
  number i m = m - i - (below rs m - below rs i)

  mapped : (b : Bool) (x y : ℕ) → (T (not b) → suc x ≡ y) → map (λ n. suc n) (pick b none (some x)) ≡ pick b none (some y)
  mapped true x y e = refl
  mapped false x y e = ap some (e tt)

  place_in : (i k m : ℕ) → i ≤ m → m < i + k → place (without rs (up_from i k)) m ≡ pick (elem m rs) none (some (number i m))
  place_in i zero m l u = absurd (omega arith)
  place_in i (suc k) m l u =
      let W : List ℕ = without rs (up_from (suc i) k) in
      let n = below_next 0 rs i h in
      pick_case (λ (xs : List ℕ). place xs m ≡ pick (elem m rs) none (some (number i m))) (elem i rs) W (i ∷ W)
      (λ t. eq_split i m
      (λ e. place_none (suc i) W m (without_rises (suc i) rs (up_from (suc i) k) (up_from_rises (suc i) k)) (omega arith) ∙ sym (pick_yes (elem m rs) _ _ (rw e at t)))
      (λ d. let lt : suc i ≤ m = omega arith in
      let up : m < suc i + k = omega arith in
      let g : below rs (suc i) ≡ suc (below rs i) = n ∙ pick_yes (elem i rs) _ _ t in
      let (a, b) = between (suc i) m lt in
      let z = further_gone i m (below rs i) (below rs (suc i)) (below rs m) lt g a b in
      place_in (suc i) k m lt up ∙ ap (λ (x : ℕ). pick (elem m rs) none (some x)) z))
      (λ t. eq_split i m
      (λ e. let z : number i m ≡ 0 = rw e (omega arith) in
      rw (eqb_true i m e, z) (sym (pick_no (elem m rs) _ _ (rw e at t))))
      (λ d. let lt : suc i ≤ m = omega arith in
      let up : m < suc i + k = omega arith in
      let g : below rs (suc i) ≡ below rs i = n ∙ pick_no (elem i rs) _ _ t in
      let (a, b) = between (suc i) m lt in
      rw (eqb_false i m d, place_in (suc i) k m lt up) (mapped (elem m rs) (number (suc i) m) (number i m) (λ v. further_stays i m (below rs i) (below rs (suc i)) (below rs m) lt g a b))))

-- the new number of line m, of n lines
pub place_is : (rs : List ℕ) → RisesFrom 0 rs → (n m : ℕ) → m < n → place (survivors n rs) m ≡ pick (elem m rs) none (some (m - below rs m))
place_is rs h n m l =
    let z : below rs 0 ≡ 0 = below_none 0 rs 0 h (omega arith) in
    let y : m - 0 - (below rs m - below rs 0) ≡ m - below rs m = omega arith in
    place_in rs h 0 n m (omega arith) (omega arith) ∙ ap (λ (x : ℕ). pick (elem m rs) none (some x)) y
