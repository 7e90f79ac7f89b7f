-- A line looked up by halving among the numbers of a removal, as they stand in bytes two by two.
use mathlib.Core.Path.{◌≡◌, refl, sym, ap, ◌∙◌}
use Prim.Native.Nat.{ℕ, zero, suc, ◌+◌, ◌*◌, ◌/◌, ◌≤◌, ◌<◌}
use native.Mathlib.Omega.{arith}
use mathlib.Core.List.{List, [], ◌∷◌, map}
use lib.ListN.{length, get_or}
use Rattle.std.specs.Prelude.{Result, Ok, Err, MatchResult}
use Rattle.std.specs.Ordering.{nat_cmp}
use Rattle.std.specs.List.Sorted.{IsBinarySearchResult, IsSearchInRange}
use Rattle.std.specs.Simd.{first_chunks}
use Rattle.std.proofs.lemmas.List.{get_or-map, length-map}
use Rattle.std.proofs.lemmas.List.Sorted.{searched}
use Rattle.bits.specs.ChoiceLaws.{eqb_true, eqb_false, eq_split}
use Rattle.orders.specs.Survive.{at, RisesFrom}
use Rattle.orders.specs.Listed.{numbers_in, removal_lines}
use Rattle.orders.proofs.Laws.Survive.{rises_lt}
use Rattle.order_removal.specs.Rank.{below, Rising, Ranked}
use Rattle.order_removal.proofs.Laws.Listed.{listed_even}
use Rattle.order_removal.proofs.Laws.Rank.{below_most, below_more, below_few, elem_at, elem_end}

-- ---- in a rising list

module _ (rs : List ℕ) (n : ℕ) (h : RisesFrom 0 rs) where
  rises : (i j : ℕ) → i ≤ j → j < length rs → at rs i ≤ at rs j
  rises i j l k = eq_split i j (λ e. rw e (omega arith)) (λ d. let o : at rs i < at rs j = rises_lt 0 rs i j h (omega arith) k in omega arith)

  -- those before place k are below n
  at_least : (k : ℕ) → k ≤ length rs → ((i : ℕ) → i < k → at rs i < n) → k ≤ below rs n
  at_least zero l f = omega arith
  at_least (suc i) l f = omega (arith, below_more 0 rs n i h (omega arith) (f i (omega arith)))

  pub found_rank : (r : Result ℕ ℕ) → IsBinarySearchResult (λ x. nat_cmp x n) rs r → Ranked rs n r
  found_rank r s = go r (searched rs n r s rises)
    where
      go : (r : Result ℕ ℕ) → MatchResult r (λ i. (i < length rs) × (at rs i ≡ n)) (λ i. (i ≤ length rs) × ((k : ℕ) → k < i → at rs k < n) × ((k : ℕ) → i ≤ k → k < length rs → n < at rs k)) → Ranked rs n r
      go (Ok i) (l, e) =
          let u : i ≤ below rs n = at_least i (omega arith) (λ k m. let o : at rs k < at rs i = rises_lt 0 rs k i h m l in omega arith) in
          let v : below rs n ≤ i = below_few 0 rs n i h l (omega arith) in
          let z : below rs n ≡ i = omega arith in
          record { below = sym z; gone = sym (elem_at 0 rs n h (omega arith) ∙ rw z (eqb_true (at rs i) n e)) }
      go (Err i) (l, f, g) =
          let u : i ≤ below rs n = at_least i l f in
          eq_split i (length rs)
          (λ e. let z : below rs n ≡ length rs = omega (arith, below_most rs n) in record { below = omega arith; gone = sym (elem_end 0 rs n h z) })
          (λ d. let k : n < at rs i = g i (omega arith) (omega arith) in
          let v : below rs n ≤ i = below_few 0 rs n i h (omega arith) (omega arith) in
          let z : below rs n ≡ i = omega arith in
          record { below = sym z; gone = sym (elem_at 0 rs n h (omega arith) ∙ rw z (eqb_false (at rs i) n (λ e. omega arith))) })

-- ---- the numbers as they stand in bytes, two by two

abbrev pub number : List ℕ → ℕ
number bs = get_or bs 0 0 * 256 + get_or bs 1 0

pub numbers_of_chunks : (bs : List ℕ) → map number (first_chunks 2 (length bs / 2) bs) ≡ numbers_in bs
numbers_of_chunks [] = refl
numbers_of_chunks (b ∷ []) = refl
numbers_of_chunks (b ∷ c ∷ bs) =
    let z : length (b ∷ c ∷ bs) / 2 ≡ suc (length bs / 2) = omega arith in
    rw z (ap (λ (ns : List ℕ). (b * 256 + c) ∷ ns) (numbers_of_chunks bs))

-- what is found among chunks by their numbers is found among the numbers
module _ (f : List ℕ → ℕ) (xs : List (List ℕ)) (n : ℕ) where
  mapped : (i d : ℕ) (e : List ℕ) → i < length xs → get_or (map f xs) i d ≡ f (get_or xs i e)
  mapped i d e l = get_or-map f xs i e d l

  pub searched_numbers : (r : Result ℕ ℕ) → IsSearchInRange r (length xs) → IsBinarySearchResult (λ x. nat_cmp (f x) n) xs r
      → IsBinarySearchResult (λ x. nat_cmp x n) (map f xs) r
  searched_numbers r b s = go r b s
    where
      go : (r : Result ℕ ℕ) → IsSearchInRange r (length xs) → IsBinarySearchResult (λ x. nat_cmp (f x) n) xs r → IsBinarySearchResult (λ x. nat_cmp x n) (map f xs) r
      go (Ok i) l s = λ d. ap (λ (x : ℕ). nat_cmp x n) (mapped i d [] l) ∙ s []
      go (Err i) l s =
          λ h.
          let z : length (map f xs) ≡ length xs = length-map xs f in
          let (a, b) = s (λ i j d o m. rw (← mapped i 0 d (omega arith), ← mapped j 0 d m) (h i j 0 o (omega arith))) in (
            λ k d o m. ap (λ (x : ℕ). nat_cmp x n) (mapped k d [] (omega arith)) ∙ a k [] o m,
            λ k d o m. ap (λ (x : ℕ). nat_cmp x n) (mapped k d [] (omega arith)) ∙ b k [] o (omega arith),
          )

-- ---- a line in the list of a removal

pub rank_found : (bs : List ℕ) → Rising bs → (n : ℕ) {xs : List (List ℕ)} → xs ≡ first_chunks 2 (length bs / 2) bs → (r : Result ℕ ℕ)
    → IsSearchInRange r (length xs) → IsBinarySearchResult (λ x. nat_cmp (number x) n) xs r → Ranked (removal_lines bs) n r
rank_found bs h n {xs} e r b s =
    let z : map number xs ≡ removal_lines bs = ap (map number) e ∙ numbers_of_chunks bs ∙ sym (listed_even bs (omega (arith, h.even))) in
    found_rank (removal_lines bs) n h.rises r (rw z at (searched_numbers number xs n r b s))
