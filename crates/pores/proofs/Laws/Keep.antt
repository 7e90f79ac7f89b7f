-- What is kept of pores fits the lines that are left, and each of these has the pores that it had. So keeping all is keeping, keeping
-- twice is keeping once, and in the segments of a view it is the same.
use mathlib.Core.Path.{◌≡◌, refl, sym, ap, ap₂, ◌∙◌}
use Prim.Native.Nat.{ℕ, suc, ◌≤◌, ◌<◌}
use native.Mathlib.Omega.{arith}
use mathlib.Core.Bool.{Bool, true, false}
use mathlib.Core.Option.{Option, none, some}
use mathlib.Core.List.{List, [], ◌∷◌, map}
use lib.ListN.{length, get_or, length-map}
use lib.Dec.{T, eqb→eq}
use mir.Facts.{yes_and}
use Rattle.bits.specs.Choice.{pick, some?}
use Rattle.bits.specs.Lists.{All}
use Rattle.bits.specs.ListsLaws.{all_at, all_map, map_at, yes_every, every_yes}
use Rattle.format.specs.Segments.{Segment, FitsSegment, sweat_pores, is_pores}
use Rattle.pores_parts.specs.Parts.{Pores, FitsPores}
use Rattle.pores.specs.Payload.{pores_in, payload_of}
use Rattle.pores.specs.PayloadLaws.{payload_read, payload_written, pores_fit}
use Rattle.pores.specs.Keep.{distances_at, keep, kept_payload, keep_in, keep_segments, pores_right, all_pores_right}

-- ---- pores

pub keep_fits : (n : ℕ) (ks : List ℕ) (p : Pores) → All (λ k. k < n) ks → FitsPores n p → FitsPores (length ks) (keep ks p)
keep_fits n ks p l h =
    record {
      resolution = h.resolution;
      low = h.low;
      high = h.high;
      count = length-map ks (distances_at p);
      distances = all_map (All (λ d. 1 ≤ d)) (λ k. k < n) (distances_at p) ks
          (λ k b. all_at (All (λ d. 1 ≤ d)) [] p.lines k (omega (arith, h.count)) h.distances) l;
    }

-- line q of those that are left has the distances of the line that it was
pub keep_at : (ks : List ℕ) (p : Pores) (q : ℕ) → q < length ks → distances_at (keep ks p) q ≡ distances_at p (get_or ks q 0)
keep_at ks p q l = map_at (distances_at p) ks q 0 [] l

-- those of all, one by one from line i on
all_lines : (ls : List (List ℕ)) (ks : List ℕ) (f : ℕ → List ℕ) → length ks ≡ length ls → ((p : ℕ) → p < length ls → f (get_or ks p 0) ≡ get_or ls p []) → map f ks ≡ ls
all_lines [] [] f e h = refl
all_lines [] (k ∷ ks) f e h = absurd (omega arith)
all_lines (l ∷ ls) [] f e h = absurd (omega arith)
all_lines (l ∷ ls) (k ∷ ks) f e h =
    ap₂ (λ (x : List ℕ) (xs : List (List ℕ)). x ∷ xs) (h 0 (omega arith)) (all_lines ls ks f (omega arith) (λ p b. h (suc p) (omega arith)))

pub keep_all : (n : ℕ) (ks : List ℕ) (p : Pores) → length ks ≡ n → ((q : ℕ) → q < n → get_or ks q 0 ≡ q) → FitsPores n p → keep ks p ≡ p
keep_all n ks p e up h =
    let z : map (distances_at p) ks ≡ p.lines = all_lines p.lines ks (distances_at p) (omega (arith, h.count)) (λ q l. ap (distances_at p) (up q (omega (arith, h.count)))) in
    ap (λ (ls : List (List ℕ)). record { resolution = p.resolution; e = p.e; lines = ls }) z

pub maps_twice : {A : Type 0} (f g : ℕ → A) (at : ℕ → ℕ) (m : ℕ) (ks : List ℕ) → All (λ k. k < m) ks → ((k : ℕ) → k < m → f k ≡ g (at k))
    → map f ks ≡ map g (map at ks)
maps_twice f g at m [] l h = refl
maps_twice {A} f g at m (k ∷ ks) l h = ap₂ (λ (x : A) (xs : List A). x ∷ xs) (h k l.0) (maps_twice f g at m ks l.1 h)

pub keep_keep : (ks js : List ℕ) (p : Pores) → All (λ j. j < length ks) js → keep js (keep ks p) ≡ keep (map (λ j. get_or ks j 0) js) p
keep_keep ks js p l =
    ap (λ (ls : List (List ℕ)). record { resolution = p.resolution; e = p.e; lines = ls })
    (maps_twice (distances_at (keep ks p)) (distances_at p) (λ j. get_or ks j 0) (length ks) js l (λ j b. keep_at ks p j b))

-- ---- a segment

-- one of another type stays, and one of pores has what is kept of them
pub kept_other : (n : ℕ) (ks : List ℕ) (g : Segment) → is_pores g ≡ false → keep_in n ks g ≡ g
kept_other n ks g e = rw e

pub kept_pores : (n : ℕ) (ks : List ℕ) (g : Segment) → is_pores g ≡ true → (p : Pores) → pores_in n g.payload ≡ some p
    → keep_in n ks g ≡ record { kind = sweat_pores; payload = payload_of (keep ks p) }
kept_pores n ks g e p h =
    let k : g.kind ≡ sweat_pores = eqb→eq g.kind sweat_pores (rw e tt) in
    ap₂ (λ (a : ℕ) (s : List ℕ). record { kind = a; payload = s }) k (ap (λ (t : Bool). pick t (kept_payload ks g.payload (pores_in n g.payload)) g.payload) e ∙ ap (kept_payload ks g.payload) h)

-- where all stay, in their order, it stays as it is
keep_one : (n : ℕ) (ks : List ℕ) (g : Segment) → length ks ≡ n → ((q : ℕ) → q < n → get_or ks q 0 ≡ q) → FitsSegment g → keep_in n ks g ≡ g
keep_one n ks g e up f = ap (λ (s : List ℕ). record { kind = g.kind; payload = s }) (kind (is_pores g))
  where
    said : (o : Option Pores) → pores_in n g.payload ≡ o → kept_payload ks g.payload o ≡ g.payload
    said none h = refl
    said (some p) h = let (a, b) = payload_written n g.payload p f.payload h in ap payload_of (keep_all n ks p e up a) ∙ sym b

    kind : (t : Bool) → pick t (kept_payload ks g.payload (pores_in n g.payload)) g.payload ≡ g.payload
    kind true = said (pores_in n g.payload) refl
    kind false = refl

-- what is kept of the kept
keep_two : (n : ℕ) (ks js : List ℕ) (g : Segment) → All (λ k. k < n) ks → All (λ j. j < length ks) js → T (pores_right n g)
    → keep_in (length ks) js (keep_in n ks g) ≡ keep_in n (map (λ j. get_or ks j 0) js) g
keep_two n ks js g low less right = ap (λ (s : List ℕ). record { kind = g.kind; payload = s }) (kind (is_pores g) right)
  where
    said : (o : Option Pores) → pores_in n g.payload ≡ o → T (some? o)
        → kept_payload js (kept_payload ks g.payload o) (pores_in (length ks) (kept_payload ks g.payload o)) ≡ kept_payload (map (λ j. get_or ks j 0) js) g.payload o
    said none h t = absurd t
    said (some p) h t =
        let f : FitsPores (length ks) (keep ks p) = keep_fits n ks p low (pores_fit n g.payload p h) in
        ap (kept_payload js (payload_of (keep ks p))) (payload_read (length ks) (keep ks p) f) ∙ ap payload_of (keep_keep ks js p less)

    kind : (t : Bool) → T (pick t (some? (pores_in n g.payload)) true)
        → (let s : List ℕ = pick t (kept_payload ks g.payload (pores_in n g.payload)) g.payload in pick t (kept_payload js s (pores_in (length ks) s)) s)
        ≡ pick t (kept_payload (map (λ j. get_or ks j 0) js) g.payload (pores_in n g.payload)) g.payload
    kind true t = said (pores_in n g.payload) refl t
    kind false t = refl

-- what is kept of pores says pores, of the lines that are left
right_kept : (n : ℕ) (ks : List ℕ) (g : Segment) → All (λ k. k < n) ks → T (pores_right n g) → T (pores_right (length ks) (keep_in n ks g))
right_kept n ks g low right = kind (is_pores g) right
  where
    said : (o : Option Pores) → pores_in n g.payload ≡ o → T (some? o) → T (some? (pores_in (length ks) (kept_payload ks g.payload o)))
    said none h t = absurd t
    said (some p) h t = rw (payload_read (length ks) (keep ks p) (keep_fits n ks p low (pores_fit n g.payload p h))) tt

    kind : (t : Bool) → T (pick t (some? (pores_in n g.payload)) true)
        → T (pick t (some? (pores_in (length ks) (pick t (kept_payload ks g.payload (pores_in n g.payload)) g.payload))) true)
    kind true t = said (pores_in n g.payload) refl t
    kind false t = tt

-- what says pores of as many lines as before said pores before
right_one : (m n : ℕ) (ks : List ℕ) (g : Segment) → m ≡ n → T (pores_right m (keep_in n ks g)) → T (pores_right n g)
right_one m n ks g e right = kind (is_pores g) right
  where
    said : (o : Option Pores) → pores_in n g.payload ≡ o → T (some? (pores_in m (kept_payload ks g.payload o))) → T (some? o)
    said none h t = rw (e, h) at t
    said (some p) h t = tt

    kind : (t : Bool) → T (pick t (some? (pores_in m (pick t (kept_payload ks g.payload (pores_in n g.payload)) g.payload))) true)
        → T (pick t (some? (pores_in n g.payload)) true)
    kind true t = said (pores_in n g.payload) refl t
    kind false t = tt

-- ---- the segments of a view

pub keep_every : (n : ℕ) (ks : List ℕ) (gs : List Segment) → length ks ≡ n → ((q : ℕ) → q < n → get_or ks q 0 ≡ q) → All FitsSegment gs
    → keep_segments n ks gs ≡ gs
unfolding keep_segments
keep_every n ks [] e up f = refl
keep_every n ks (g ∷ gs) e up f = ap₂ (λ (x : Segment) (xs : List Segment). x ∷ xs) (keep_one n ks g e up f.0) (keep_every n ks gs e up f.1)

pub keep_twice : (n : ℕ) (ks js : List ℕ) (gs : List Segment) → All (λ k. k < n) ks → All (λ j. j < length ks) js → T (all_pores_right n gs)
    → keep_segments (length ks) js (keep_segments n ks gs) ≡ keep_segments n (map (λ j. get_or ks j 0) js) gs
unfolding keep_segments all_pores_right
keep_twice n ks js [] low less right = refl
keep_twice n ks js (g ∷ gs) low less right =
    let (a, b) = yes_every (pores_right n) (g ∷ gs) right in
    ap₂ (λ (x : Segment) (xs : List Segment). x ∷ xs) (keep_two n ks js g low less a) (keep_twice n ks js gs low less (every_yes (pores_right n) gs b))

pub right_after : (n : ℕ) (ks : List ℕ) (gs : List Segment) → All (λ k. k < n) ks → T (all_pores_right n gs) → T (all_pores_right (length ks) (keep_segments n ks gs))
unfolding keep_segments all_pores_right
right_after n ks [] low right = tt
right_after n ks (g ∷ gs) low right =
    let (a, b) = yes_every (pores_right n) (g ∷ gs) right in
    yes_and (pores_right (length ks) (keep_in n ks g)) _ (right_kept n ks g low a) (right_after n ks gs low (every_yes (pores_right n) gs b))

pub right_before : (m n : ℕ) (ks : List ℕ) (gs : List Segment) → m ≡ n → T (all_pores_right m (keep_segments n ks gs)) → T (all_pores_right n gs)
unfolding keep_segments all_pores_right
right_before m n ks [] e right = tt
right_before m n ks (g ∷ gs) e right =
    let (a, b) = yes_every (pores_right m) (map (keep_in n ks) (g ∷ gs)) right in
    every_yes (pores_right n) (g ∷ gs) (right_one m n ks g e a, yes_every (pores_right n) gs (right_before m n ks gs e (every_yes (pores_right m) (map (keep_in n ks) gs) b)))
