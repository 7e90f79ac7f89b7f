-- The least width: an index of at most 1,024 falling lists fits it, it is from 1 to 16, and no width that fits is less.
use mathlib.Core.Path.{◌≡◌, refl}
use Prim.Native.Nat.{ℕ, zero, suc, ◌+◌, ◌^◌, ◌≤◌, ◌<◌}
use native.Mathlib.Omega.{arith}
use mathlib.Core.List.{List, [], ◌∷◌}
use lib.ListN.{length}
use lib.Dec.{ltb, ltb→lt, nltb→le}
use lib.Pow.{pow_mono, pow_pos}
use Rattle.bits.specs.ChoiceLaws.{pick_case, split}
use Rattle.bits.specs.Lists.{All, Along}
use Rattle.format.specs.Limits.{most_lines}
use Rattle.differences.specs.Differences.{Falls, diffs}
use Rattle.differences.proofs.DifferencesLaws.{falls_count}
use Rattle.format.specs.Index.{FitsList, FitsIndex, up}
use Rattle.orders.specs.Least.{find, max_of, numbers_from, least_width, index_of}

-- ---- the first width that holds a number

find_low : (f w m : ℕ) → w ≤ find f w m
find_low zero w m = omega arith
find_low (suc f) w m = pick_case (λ (x : ℕ). w ≤ x) (ltb m (2 ^ w)) _ _ (λ t. omega arith) (λ t. omega (arith, find_low f (suc w) m))

find_high : (f w m : ℕ) → find f w m ≤ f + w
find_high zero w m = omega arith
find_high (suc f) w m = pick_case (λ (x : ℕ). x ≤ suc f + w) (ltb m (2 ^ w)) _ _ (λ t. omega arith) (λ t. omega (arith, find_high f (suc w) m))

find_holds : (f w m : ℕ) → m < 2 ^ (f + w) → m < 2 ^ find f w m
find_holds zero w m h = let e : 0 + w ≡ w = omega arith in rw e at h
find_holds (suc f) w m h =
    let e : suc f + w ≡ f + suc w = omega arith in
    pick_case (λ (x : ℕ). m < 2 ^ x) (ltb m (2 ^ w)) _ _ (λ t. ltb→lt m (2 ^ w) t) (λ t. find_holds f (suc w) m (rw e at h))

find_least : (f w m u : ℕ) → w ≤ u → m < 2 ^ u → find f w m ≤ u
find_least zero w m u l h = l
find_least (suc f) w m u l h =
    pick_case (λ (x : ℕ). x ≤ u) (ltb m (2 ^ w)) _ _ (λ t. l)
    (λ t. let k : 2 ^ w ≤ m = nltb→le m (2 ^ w) t in
    split u w (λ o. absurd (omega (arith, pow_mono o))) (λ o. find_least f (suc w) m u o h))

-- ---- the largest of the numbers

max_all : (k : ℕ) (xs : List ℕ) → max_of xs < k → All (λ x. x < k) xs
max_all k [] h = tt
max_all k (x ∷ xs) h = (omega arith, max_all k xs (omega arith))

all_max : (k : ℕ) (xs : List ℕ) → 0 < k → All (λ x. x < k) xs → max_of xs < k
all_max k [] l h = l
all_max k (x ∷ xs) l h = omega (arith, all_max k xs l h.1)

-- a width that fits holds the largest
fits_numbers : (w l : ℕ) (ls : List (List ℕ)) → Along up (FitsList w) l ls → max_of (numbers_from l ls) < 2 ^ w
fits_numbers w l [] h = pow_pos w
fits_numbers w l (ns ∷ ls) h =
    omega (arith, h.0.count, all_max (2 ^ w) (diffs l ns) (omega arith) h.0.diffs, fits_numbers w (suc l) ls h.1)

-- a width that holds the largest fits
numbers_fit : (w l : ℕ) (ls : List (List ℕ)) → Along up (Falls 0) l ls → max_of (numbers_from l ls) < 2 ^ w → Along up (FitsList w) l ls
numbers_fit w l [] h m = tt
numbers_fit w l (ns ∷ ls) h m =
    (record { falls = h.0; count = omega arith; diffs = max_all (2 ^ w) (diffs l ns) (omega arith) }, numbers_fit w (suc l) ls h.1 (omega arith))

-- ---- a width of 16 fits every index

diffs_below : (k m l : ℕ) (ns : List ℕ) → l < k → Falls m l ns → All (λ d. d < k) (diffs l ns)
diffs_below k m l [] b h = tt
diffs_below k m l (n ∷ ns) b h = (omega arith, diffs_below k 1 n ns (omega arith) h.1)

wide_fits : (l : ℕ) (ls : List (List ℕ)) → l + length ls ≤ most_lines → Along up (Falls 0) l ls → Along up (FitsList 16) l ls
unfolding most_lines
wide_fits l [] b h = tt
wide_fits l (ns ∷ ls) b h =
    let few : length ns ≤ suc l = omega (arith, falls_count 0 l ns (omega arith) h.0) in (
      record { falls = h.0; count = omega arith; diffs = diffs_below (2 ^ 16) 0 l ns (omega arith) h.0 },
      wide_fits (suc l) ls (omega arith) h.1,
    )

-- ---- the least width

pub least_fits : (ls : List (List ℕ)) → length ls ≤ most_lines → Along up (Falls 0) 0 ls → FitsIndex (length ls) (index_of ls)
unfolding least_width
least_fits ls b h =
    let m : ℕ = max_of (numbers_from 0 ls) in
    record {
      low = find_low 15 1 m;
      high = find_high 15 1 m;
      count = refl;
      lists = numbers_fit (find 15 1 m) 0 ls h (find_holds 15 1 m (fits_numbers 16 0 ls (wide_fits 0 ls (omega arith) h)));
    }

pub least_least : (ls : List (List ℕ)) (u : ℕ) → 1 ≤ u → Along up (FitsList u) 0 ls → least_width ls ≤ u
unfolding least_width
least_least ls u l h = find_least 15 1 (max_of (numbers_from 0 ls)) u l (fits_numbers u 0 ls h)
