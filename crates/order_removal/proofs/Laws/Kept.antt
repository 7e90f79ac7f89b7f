-- What a removal leaves, value by value, is what the survivors have: the definition goes by the survivors' old numbers, the code by
-- the lines.
use mathlib.Core.Path.{◌≡◌, refl, ap, ap₂, ◌∙◌}
use Prim.Native.Nat.{ℕ, suc, ◌+◌, ◌-◌, ◌≤◌, ◌<◌}
use native.Mathlib.Omega.{arith}
use mathlib.Core.Bool.{Bool, true, false}
use mathlib.Core.List.{List, [], ◌∷◌, map}
use lib.ListN.{length, get_or}
use Rattle.bits.specs.Choice.{pick}
use Rattle.orders.specs.Survive.{elem, up_from, without, survivors, RisesFrom}
use Rattle.orders.proofs.Laws.Survive.{up_from_rises, without_rises}
use Rattle.order_removal.specs.Kept.{kept}

map_rises : {B : Type 0} (f g : ℕ → B) (n : ℕ) (ys : List ℕ) → RisesFrom n ys → ((j : ℕ) → n ≤ j → f j ≡ g j) → map f ys ≡ map g ys
map_rises f g n [] r e = refl
map_rises f g n (y ∷ ys) r e = ap₂ (λ (x : _) (xs : List _). x ∷ xs) (e y r.0) (map_rises f g (suc y) ys r.1 (λ j l. e j (omega (arith, r.0))))

-- where both say the same of every line's value
pub kept_same : {A B : Type 0} (f g : ℕ → A → B) (rs : List ℕ) (l : ℕ) (d : A) (xs : List A) → ((i : ℕ) → i < length xs → f (l + i) (get_or xs i d) ≡ g (l + i) (get_or xs i d))
    → kept f rs l xs ≡ kept g rs l xs
kept_same f g rs l d [] e = refl
kept_same f g rs l d (x ∷ xs) e =
    let z : l + 0 ≡ l = omega arith in
    let h : f l x ≡ g l x = rw z at (e 0 (omega arith)) in
    let ih = kept_same f g rs (suc l) d xs (λ i k. let y : suc l + i ≡ l + suc i = omega arith in rw y (e (suc i) (omega arith))) in
    ap₂ (λ (a : List _) (b : List _). pick (elem l rs) a b) ih (ap₂ (λ (a : _) (b : List _). a ∷ b) h ih)

pub kept_map : {A B : Type 0} (g : A → B) (d : A) (rs : List ℕ) (i : ℕ) (xs : List A)
    → kept (λ l x. g x) rs i xs ≡ map (λ j. g (get_or xs (j - i) d)) (without rs (up_from i (length xs)))
kept_map g d rs i [] = refl
kept_map {A} {B} g d rs i (x ∷ xs) =
    let W : List ℕ = without rs (up_from (suc i) (length xs)) in
    let later : kept (λ l x. g x) rs (suc i) xs ≡ map (λ j. g (get_or (x ∷ xs) (j - i) d)) W =
    kept_map g d rs (suc i) xs
    ∙ map_rises (λ j. g (get_or xs (j - suc i) d)) (λ j. g (get_or (x ∷ xs) (j - i) d)) (suc i) W (without_rises (suc i) rs (up_from (suc i) (length xs)) (up_from_rises (suc i) (length xs)))
    (λ j l. let z : j - i ≡ suc (j - suc i) = omega arith in rw z refl) in
    go (elem i rs) W (kept (λ l x. g x) rs (suc i) xs) later
  where
    go : (b : Bool) (W : List ℕ) (K : List B) → K ≡ map (λ j. g (get_or (x ∷ xs) (j - i) d)) W → pick b K (g x ∷ K) ≡ map (λ j. g (get_or (x ∷ xs) (j - i) d)) (pick b W (i ∷ W))
    go true W K e = e
    go false W K e = let z : i - i ≡ 0 = omega arith in rw z (ap (λ (ys : List B). g x ∷ ys) e)

-- from the first line on
pub kept_survivors : {A B : Type 0} (g : A → B) (d : A) (rs : List ℕ) (xs : List A) → kept (λ l x. g x) rs 0 xs ≡ map (λ j. g (get_or xs j d)) (survivors (length xs) rs)
kept_survivors g d rs xs =
    kept_map g d rs 0 xs
    ∙ map_rises (λ j. g (get_or xs (j - 0) d)) (λ j. g (get_or xs j d)) 0 (survivors (length xs) rs) (without_rises 0 rs (up_from 0 (length xs)) (up_from_rises 0 (length xs)))
    (λ j l. let z : j - 0 ≡ j = omega arith in rw z refl)

-- where no line is removed
pub kept_all : {A : Type 0} (i : ℕ) (xs : List A) → kept (λ j x. x) [] i xs ≡ xs
kept_all i [] = refl
kept_all i (x ∷ xs) = ap (λ ys. x ∷ ys) (kept_all (suc i) xs)
