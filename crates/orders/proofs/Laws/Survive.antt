-- Rising lists, survivors and renumbering. Survivors are a rising list of lines, shorter than before if the removal names a line,
-- and a renumbered list has survivor q exactly if it had the line that q was: what the laws of a removal rest on.
use mathlib.Core.Path.{◌≡◌, refl, sym, ap, ◌∙◌}
use mathlib.Core.Logic.{◌≢◌}
use Prim.Native.Nat.{ℕ, zero, suc, ◌+◌, ◌≤◌, ◌<◌, min, max}
use native.Mathlib.Omega.{arith}
use mathlib.Core.Bool.{Bool, ◌||◌}
use mathlib.Core.Option.{none, some}
use mathlib.Core.List.{List, [], ◌∷◌, map}
use lib.ListN.{length, length-map}
use lib.Dec.{T, T_not, eqb}
use Rattle.bits.specs.ChoiceLaws.{pick_case, eqb_true, eqb_false, split, eq_split}
use Rattle.bits.specs.Lists.{All}
use Rattle.bits.specs.ListsLaws.{all_at, map_at}
use Rattle.orders.specs.Survive.{elem, at, up_from, without, survivors, place, renumber, RisesFrom}

-- ---- rising lists, by places

rises_less : {m k : ℕ} (xs : List ℕ) → k ≤ m → RisesFrom m xs → RisesFrom k xs
rises_less [] l h = tt
rises_less (x ∷ xs) l h = (omega arith, h.1)

rises_low : {m : ℕ} (xs : List ℕ) (p : ℕ) → RisesFrom m xs → p < length xs → m ≤ at xs p
rises_low [] p h l = absurd (omega arith)
rises_low (x ∷ xs) zero h l = h.0
rises_low (x ∷ xs) (suc p) h l = omega (arith, rises_low xs p h.1 (omega arith))

pub rises_lt : (m : ℕ) (xs : List ℕ) (p q : ℕ) → RisesFrom m xs → p < q → q < length xs → at xs p < at xs q
rises_lt m [] p q h l k = absurd (omega arith)
rises_lt m (x ∷ xs) p zero h l k = absurd (omega arith)
rises_lt m (x ∷ xs) zero (suc q) h l k = rises_low xs q h.1 (omega arith)
rises_lt m (x ∷ xs) (suc p) (suc q) h l k = rises_lt (suc x) xs p q h.1 (omega arith) (omega arith)

pub rises_make : (m : ℕ) (xs : List ℕ) → ((p : ℕ) → p < length xs → m ≤ at xs p)
    → ((p q : ℕ) → p < q → q < length xs → at xs p < at xs q) → RisesFrom m xs
rises_make m [] f g = tt
rises_make m (x ∷ xs) f g = (
  f 0 (omega arith),
  rises_make (suc x) xs (λ p h. g 0 (suc p) (omega arith) (omega arith)) (λ p q h k. g (suc p) (suc q) (omega arith) (omega arith)),
)

-- there are at most n - m numbers from m on and below n
pub rises_length : (m n : ℕ) (xs : List ℕ) → m ≤ n → RisesFrom m xs → ((p : ℕ) → p < length xs → at xs p < n) → m + length xs ≤ n
rises_length m n [] l h f = omega arith
rises_length m n (x ∷ xs) l h f =
    let b : x < n = f 0 (omega arith) in
    omega (arith, rises_length (suc x) n xs b h.1 (λ p k. f (suc p) (omega arith)))

-- and where there are so many, each is at its place
pub rises_all : (m n : ℕ) (xs : List ℕ) → RisesFrom m xs → ((p : ℕ) → p < length xs → at xs p < n) → m + length xs ≡ n → (q : ℕ) → q < length xs → at xs q ≡ m + q
rises_all m n [] h f e q l = absurd (omega arith)
rises_all m n (x ∷ xs) h f e zero l = omega (arith, h.0, rises_length (suc x) n xs (f 0 (omega arith)) h.1 (λ p k. f (suc p) (omega arith)))
rises_all m n (x ∷ xs) h f e (suc q) l =
    let b : suc x + length xs ≤ n = rises_length (suc x) n xs (f 0 (omega arith)) h.1 (λ p k. f (suc p) (omega arith)) in
    let z : x ≡ m = omega (arith, h.0) in
    rises_all (suc x) n xs h.1 (λ p k. f (suc p) (omega arith)) (omega arith) q (omega arith) ∙ omega arith

-- a rising list keeps order and tells places apart
module _ (m : ℕ) (xs : List ℕ) (h : RisesFrom m xs) where
  pub rises_le : (p q : ℕ) → p ≤ q → q < length xs → at xs p ≤ at xs q
  rises_le p q l k = split q p (λ e. let z : p ≡ q = omega arith in rw z (omega arith)) (λ e. omega (arith, rises_lt m xs p q h e k))

  pub at_ends : (p q : ℕ) → p < length xs → q < length xs
      → (max (at xs p) (at xs q) ≡ at xs (max p q)) × (min (at xs p) (at xs q) ≡ at xs (min p q))
  at_ends p q k l =
      split p q
      (λ e. let a : max p q ≡ q = omega arith in
      let b : min p q ≡ p = omega arith in
      rw (a, b) (omega (arith, rises_le p q e l)))
      (λ e. let a : max p q ≡ p = omega arith in
      let b : min p q ≡ q = omega arith in
      rw (a, b) (omega (arith, rises_le q p (omega arith) k)))

  pub at_eqb : (p q : ℕ) → p < length xs → q < length xs → eqb (at xs p) (at xs q) ≡ eqb p q
  at_eqb p q k l =
      eq_split p q (λ e. rw e (eqb_true (at xs q) (at xs q) refl ∙ sym (eqb_true q q refl)))
      (λ n. eqb_false (at xs p) (at xs q)
      (λ e. split p q (λ o. omega (arith, rises_lt m xs p q h (omega arith) l)) (λ o. omega (arith, rises_lt m xs q p h o k)))
      ∙ sym (eqb_false p q n))

-- what stands at rising places of a rising list rises
pub map_rises : (xs ks : List ℕ) → RisesFrom 0 xs → RisesFrom 0 ks → All (λ k. k < length xs) ks → RisesFrom 0 (map (at xs) ks)
map_rises xs ks h g l =
    rises_make 0 (map (at xs) ks) (λ p k. omega arith) λ p q k o.
    let m : q < length ks = omega (arith, length-map ks (at xs)) in
    rw (map_at (at xs) ks p 0 0 (omega arith), map_at (at xs) ks q 0 0 m)
    (rises_lt 0 xs (at ks p) (at ks q) h (rises_lt 0 ks p q g k m) (all_at (λ k. k < length xs) 0 ks q m l))

-- ---- survivors

pub up_from_rises : (i n : ℕ) → RisesFrom i (up_from i n)
up_from_rises i zero = tt
up_from_rises i (suc n) = (omega arith, up_from_rises (suc i) n)

pub length_up_from : (i n : ℕ) → length (up_from i n) ≡ n
length_up_from i zero = refl
length_up_from i (suc n) = ap suc (length_up_from (suc i) n)

at_up_from : (i n p : ℕ) → p < n → at (up_from i n) p ≡ i + p
at_up_from i zero p h = absurd (omega arith)
at_up_from i (suc n) zero h = omega arith
at_up_from i (suc n) (suc p) h = at_up_from (suc i) n p (omega arith) ∙ omega arith

pub at_up : (n p : ℕ) → p < length (up_from 0 n) → at (up_from 0 n) p ≡ p
at_up n p h = at_up_from 0 n p (omega (arith, length_up_from 0 n)) ∙ omega arith

up_from_below : (i n k : ℕ) → i + n ≤ k → All (λ x. x < k) (up_from i n)
up_from_below i zero k h = tt
up_from_below i (suc n) k h = (omega arith, up_from_below (suc i) n k (omega arith))

pub without_rises : (m : ℕ) (rs xs : List ℕ) → RisesFrom m xs → RisesFrom m (without rs xs)
without_rises m rs [] h = tt
without_rises m rs (x ∷ xs) h =
    let ih : RisesFrom (suc x) (without rs xs) = without_rises (suc x) rs xs h.1 in
    pick_case (RisesFrom m) (elem x rs) _ _ (λ t. rises_less (without rs xs) (omega arith) ih) (λ t. (h.0, ih))

without_all : (P : ℕ → Type 0) (rs xs : List ℕ) → All P xs → All P (without rs xs)
without_all P rs [] h = tt
without_all P rs (x ∷ xs) h = pick_case (All P) (elem x rs) _ _ (λ t. without_all P rs xs h.1) (λ t. (h.0, without_all P rs xs h.1))

pub survivors_rise : (n : ℕ) (rs : List ℕ) → RisesFrom 0 (survivors n rs)
survivors_rise n rs = without_rises 0 rs (up_from 0 n) (up_from_rises 0 n)

pub survivors_below : (n : ℕ) (rs : List ℕ) → All (λ x. x < n) (survivors n rs)
survivors_below n rs = without_all (λ x. x < n) rs (up_from 0 n) (up_from_below 0 n n (omega arith))

-- ---- a removal that names a line shortens

without_le : (rs xs : List ℕ) → length (without rs xs) ≤ length xs
without_le rs [] = omega arith
without_le rs (x ∷ xs) =
    let ih : length (without rs xs) ≤ length xs = without_le rs xs in
    pick_case (λ (l : List ℕ). length l ≤ suc (length xs)) (elem x rs) _ _ (λ t. omega arith) (λ t. omega arith)

without_lt : (rs : List ℕ) (r i n : ℕ) → T (elem r rs) → i ≤ r → r < i + n → length (without rs (up_from i n)) < n
without_lt rs r i zero t h k = absurd (omega arith)
without_lt rs r i (suc n) t h k =
    pick_case (λ (l : List ℕ). length l < suc n) (elem i rs) _ _ (λ u. omega (arith, without_le rs (up_from (suc i) n), length_up_from (suc i) n))
    (λ u. let ne : i ≢ r = λ e. T_not (elem r rs) (rw e at u) t in
    omega (arith, without_lt rs r (suc i) n t (omega arith) (omega arith)))

pub survivors_le : (n : ℕ) (rs : List ℕ) → length (survivors n rs) ≤ n
survivors_le n rs = omega (arith, without_le rs (up_from 0 n), length_up_from 0 n)

pub survivors_lt : (n r : ℕ) (rs : List ℕ) → r < n → length (survivors n (r ∷ rs)) < n
survivors_lt n r rs h = without_lt (r ∷ rs) r 0 n (rw (eqb_true r r refl) tt) (omega arith) (omega arith)

-- ---- renumbering

-- line n is not among the survivors, or it is at its new number j
pub place_at : {X : Type 0} (ks : List ℕ) (n : ℕ) → (place ks n ≡ none → ((q : ℕ) → q < length ks → at ks q ≢ n) → X)
    → ((j : ℕ) → place ks n ≡ some j → j < length ks → at ks j ≡ n → X) → X
place_at [] n f g = f refl (λ q l. absurd (omega arith))
place_at (k ∷ ks) n f g =
    eq_split k n (λ e. g 0 (rw (eqb_true k n e)) (omega arith) e)
    (λ d. place_at ks n (λ p m. f (rw (eqb_false k n d, p)) (others d m)) (λ j p l e. g (suc j) (rw (eqb_false k n d, p)) (omega arith) e))
  where
    others : k ≢ n → ((q : ℕ) → q < length ks → at ks q ≢ n) → (q : ℕ) → q < suc (length ks) → at (k ∷ ks) q ≢ n
    others d m zero l = d
    others d m (suc q) l = m q (omega arith)

-- two survivors are neighbours after a removal exactly if they were before
pub renumber_elem : (m : ℕ) (ks : List ℕ) (q : ℕ) (ns : List ℕ) → RisesFrom m ks → q < length ks → elem q (renumber ks ns) ≡ elem (at ks q) ns
renumber_elem m ks q [] h l = refl
renumber_elem m ks q (n ∷ ns) h l =
    let ih : elem q (renumber ks ns) ≡ elem (at ks q) ns = renumber_elem m ks q ns h l in
    place_at ks n (λ p d. rw (p, eqb_false (at ks q) n (d q l)) ih)
    (λ j p k e. rw (p, ← e, at_eqb m ks h q j l k) (ap (λ (b : Bool). eqb q j || b) ih))
