-- What a removal leaves of a view's segments fits: a payload of pores with some lines' pores gone is no longer than it was, and is
-- bytes. And where nothing is removed, segments are what they were.
use mathlib.Core.Path.{◌≡◌, refl, ap, ap₂, ◌∙◌}
use Prim.Native.Nat.{ℕ, suc, ◌+◌, ◌-◌, ◌≤◌, ◌<◌}
use native.Mathlib.Nat.{mul-le-mul_right, sub-zero}
use native.Mathlib.Omega.{arith}
use mathlib.Core.Option.{Option, none, some}
use mathlib.Core.List.{List, [], ◌∷◌, map}
use lib.ListN.{length, get_or}
use Rattle.bits.specs.ChoiceLaws.{split, pick_case}
use Rattle.bits.specs.Lists.{All, total}
use Rattle.bits.specs.ListsLaws.{all_to}
use Rattle.bits.specs.Bytes.{Byte}
use Rattle.format.specs.Segments.{Segment, FitsSegment, is_pores}
use Rattle.pores_parts.specs.Parts.{Pores, FitsPores}
use Rattle.pores.specs.Payload.{pores_in, payload_of}
use Rattle.pores.specs.PayloadLaws.{payload_bytes, payload_written}
use Rattle.pores.specs.Size.{line_elements, element_count}
use Rattle.pores.specs.Keep.{keep, kept_payload, keep_in, keep_segments}
use Rattle.pores.proofs.Laws.Size.{payload_long}
use Rattle.pores.proofs.Laws.Keep.{keep_every}
use Rattle.orders.specs.Survive.{up_from, without, survivors, RisesFrom}
use Rattle.orders.proofs.Laws.Survive.{at_up, length_up_from, survivors_rise, survivors_below}

-- ---- no longer than before

-- of elements at rising places, the sum is no more than that of all
module _ {A : Type 0} (f : A → ℕ) (d : A) where
  -- the sum of those at places from i on, where the list starts at i
  abbrev picked : ℕ → List A → List ℕ → ℕ
  picked i xs ks = total f (map (λ k. get_or xs (k - i) d) ks)

  picked_rest : (i m : ℕ) (x : A) (xs : List A) (ks : List ℕ) → i < m → RisesFrom m ks → picked i (x ∷ xs) ks ≡ picked (suc i) xs ks
  picked_rest i m x xs [] l h = refl
  picked_rest i m x xs (k ∷ ks) l h =
      let z : k - i ≡ suc (k - suc i) = omega (arith, h.0) in
      ap₂ (λ (a b : ℕ). f (get_or (x ∷ xs) a d) + b) z (picked_rest i (suc k) x xs ks (omega (arith, h.0)) h.1)

  picked_le : (i : ℕ) (xs : List A) (ks : List ℕ) → RisesFrom i ks → All (λ k. k < i + length xs) ks → picked i xs ks ≤ total f xs
  picked_le i [] [] h l = omega arith
  picked_le i [] (k ∷ ks) h l = absurd (omega (arith, h.0, l.0))
  picked_le i (x ∷ xs) [] h l = omega arith
  picked_le i (x ∷ xs) (k ∷ ks) h l =
      let low : i ≤ k = h.0 in
      let near : All (λ j. j < suc i + length xs) ks = all_to _ _ ks (λ j b. omega arith) l.1 in
      split k i
      (λ e. let z : k ≡ i = omega arith in
      let y : k - i ≡ 0 = omega arith in
      rw y (omega (arith, picked_rest i (suc k) x xs ks (omega arith) h.1, picked_le (suc i) xs ks (rw z at h).1 near)))
      (λ e. omega (arith, picked_rest i k x xs (k ∷ ks) e (omega arith, h.1), picked_le (suc i) xs (k ∷ ks) (e, h.1) (omega (arith, l.0), near)))

removal_elements : (n : ℕ) (rs : List ℕ) (p : Pores) → FitsPores n p → element_count (keep (survivors n rs) p) ≤ element_count p
removal_elements n rs p h =
    simp sub-zero at
    (picked_le (line_elements p.e) [] 0 p.lines (survivors n rs) (survivors_rise n rs)
    (all_to _ _ (survivors n rs) (λ k b. omega (arith, h.count)) (survivors_below n rs)))

pub removal_short : (n : ℕ) (rs : List ℕ) (p : Pores) → FitsPores n p → length (payload_of (keep (survivors n rs) p)) ≤ length (payload_of p)
removal_short n rs p h =
    omega (arith, payload_long (keep (survivors n rs) p), payload_long p, mul-le-mul_right p.e (removal_elements n rs p h))

-- ---- segments

pub kept_fits : (n : ℕ) (rs : List ℕ) (g : Segment) → FitsSegment g
    → FitsSegment (keep_in n (survivors n rs) g) × (length (keep_in n (survivors n rs) g).payload ≤ length g.payload)
kept_fits n rs g f = (record { kind = f.kind; length = omega (arith, all.1, f.length); payload = all.0 }, all.1)
  where
    said : (o : Option Pores) → pores_in n g.payload ≡ o
        → All Byte (kept_payload (survivors n rs) g.payload o) × (length (kept_payload (survivors n rs) g.payload o) ≤ length g.payload)
    said none h = (f.payload, omega arith)
    said (some p) h =
        let (fits, is) = payload_written n g.payload p f.payload h in
        (payload_bytes (keep (survivors n rs) p), omega (arith, removal_short n rs p fits, ap length is))

    all : All Byte (keep_in n (survivors n rs) g).payload × (length (keep_in n (survivors n rs) g).payload ≤ length g.payload)
    all =
        pick_case (λ (s : List ℕ). All Byte s × (length s ≤ length g.payload)) (is_pores g) _ _ (λ t. said (pores_in n g.payload) refl) (λ t. (f.payload, omega arith))

pub segments_fit : (n : ℕ) (rs : List ℕ) (gs : List Segment) → All FitsSegment gs → All FitsSegment (keep_segments n (survivors n rs) gs)
unfolding keep_segments
segments_fit n rs [] f = tt
segments_fit n rs (g ∷ gs) f = ((kept_fits n rs g f.0).0, segments_fit n rs gs f.1)

-- ---- nothing is removed

without_none : (xs : List ℕ) → without [] xs ≡ xs
without_none [] = refl
without_none (x ∷ xs) = ap (λ (ys : List ℕ). x ∷ ys) (without_none xs)

pub none_removed : (n : ℕ) (gs : List Segment) → All FitsSegment gs → keep_segments n (survivors n []) gs ≡ gs
none_removed n gs f =
    ap (λ (ks : List ℕ). keep_segments n ks gs) (without_none (up_from 0 n)) ∙ keep_every n (up_from 0 n) gs (length_up_from 0 n) (λ q l. at_up n q (omega (arith, length_up_from 0 n))) f
