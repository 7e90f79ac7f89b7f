-- Fields and raw sheets go over into each other: a sheet's fields give the sheet, and fields in order are those of the sheet that
-- they give.
use mathlib.Core.Path.{◌≡◌, refl, sym, ap, ap₂, ◌∙◌, subst}
use mathlib.Core.Logic.{◌≢◌}
use Prim.Native.Nat.{ℕ, ◌<◌}
use native.Mathlib.Omega.{arith}
use mathlib.Core.Bool.{Bool, true, false, not}
use mathlib.Core.Option.{Option, none, some}
use mathlib.Core.List.{List, [], ◌∷◌, ◌++◌, append-nil, map}
use lib.Dec.{T, eqb, eqb→eq}
use mir.Facts.{and_yes, yes_and, no_eqb}
use Rattle.bits.specs.Choice.{pick}
use Rattle.bits.specs.ChoiceLaws.{pick_no, pick_case, T_true, eqb_true, eqb_false}
use Rattle.bits.specs.Lists.{All, every, empty?}
use Rattle.bits.specs.ListsLaws.{all_true_lem, true_all, all_append, empty_is}
use Rattle.sheet.specs.Fields.{Field}
use Rattle.sheet.specs.Grammar.{RawView, RawSheet, Parts, one, index_fields, body_fields, views_fields, sheet_fields, parted, front, rest, index_in, index_rest, view_in, used_up, sheet_in, sheet_shape, in_order, grammar}

retag : (t : ℕ) (f : Field) → f.tag ≡ t → f ≡ one t f.value
retag t f e = λ i. record { tag = e i; value = f.value }

-- ---- fields of one tag, as long as they come

abbrev starts : ℕ → List Field → Bool
starts t [] = false
starts t (f ∷ fs) = eqb f.tag t

front_there : (t : ℕ) (vs : List (List ℕ)) (r : List Field) → T (not (starts t r)) → front t (map (one t) vs ++ r) ≡ vs
front_there t [] [] h = refl
front_there t [] (f ∷ fs) h = pick_no (eqb f.tag t) _ _ h
front_there t (v ∷ vs) r h = rw (eqb_true t t refl) (ap (λ (l : List (List ℕ)). v ∷ l) (front_there t vs r h))

rest_there : (t : ℕ) (vs : List (List ℕ)) (r : List Field) → T (not (starts t r)) → rest t (map (one t) vs ++ r) ≡ r
rest_there t [] [] h = refl
rest_there t [] (f ∷ fs) h = pick_no (eqb f.tag t) _ _ h
rest_there t (v ∷ vs) r h = rw (eqb_true t t refl) (rest_there t vs r h)

split_tags : (t : ℕ) (fs : List Field) → fs ≡ map (one t) (front t fs) ++ rest t fs
split_tags t [] = refl
split_tags t (f ∷ fs) = go (eqb f.tag t) (eqb→eq f.tag t) (split_tags t fs)
  where
    go : (b : Bool) → (T b → f.tag ≡ t) → fs ≡ map (one t) (front t fs) ++ rest t fs
        → (f ∷ fs) ≡ map (one t) (pick b (f.value ∷ front t fs) []) ++ pick b (rest t fs) (f ∷ fs)
    go true e ih = ap₂ (λ (x : Field) (y : List Field). x ∷ y) (retag t f (e tt)) ih
    go false e ih = refl

index_split : (fs : List Field) → fs ≡ index_fields (index_in fs) ++ index_rest fs
index_split [] = refl
index_split (f ∷ fs) = go (eqb f.tag 4) (eqb→eq f.tag 4)
  where
    go : (b : Bool) → (T b → f.tag ≡ 4) → (f ∷ fs) ≡ index_fields (pick b (some (f.value, front 5 fs)) none) ++ pick b (rest 5 fs) (f ∷ fs)
    go true e = ap₂ (λ (x : Field) (y : List Field). x ∷ y) (retag 4 f (e tt)) (split_tags 5 fs)
    go false e = refl

-- ---- one view

-- fields that are used up are those of the view that they give
body_back : (p : List ℕ × List Field) → T (used_up p) → p.1 ≡ body_fields (view_in p)
body_back p t =
    let fs : List Field = p.1 in
    let q : List Field = index_rest (rest 3 fs) in
    let z : rest 6 q ≡ [] = empty_is (rest 6 q) (T_true (empty? (rest 6 q)) t) in
    let e : q ≡ map (one 6) (front 6 q) = split_tags 6 q ∙ ap (λ (r : List Field). map (one 6) (front 6 q) ++ r) z ∙ append-nil (map (one 6) (front 6 q)) in
    split_tags 3 fs
    ∙ ap (λ (r : List Field). map (one 3) (front 3 fs) ++ r) (index_split (rest 3 fs) ∙ ap (λ (r : List Field). index_fields (index_in (rest 3 fs)) ++ r) e)

others : (t u : ℕ) (vs : List (List ℕ)) (r : List Field) → u ≢ t → T (not (starts t r)) → T (not (starts t (map (one u) vs ++ r)))
others t u [] r n h = h
others t u (v ∷ vs) r n h = no_eqb {a = u} {b = t} n

index_not_three : (o : Option (List ℕ × List (List ℕ))) (r : List Field) → T (not (starts 3 r)) → T (not (starts 3 (index_fields o ++ r)))
index_not_three none r h = h
index_not_three (some i) r h = tt

index_there : (o : Option (List ℕ × List (List ℕ))) (r : List Field) → T (not (starts 4 r)) → T (not (starts 5 r))
    → (index_in (index_fields o ++ r) ≡ o) × (index_rest (index_fields o ++ r) ≡ r)
index_there none [] h k = (refl, refl)
index_there none (f ∷ fs) h k = (pick_no (eqb f.tag 4) _ _ h, pick_no (eqb f.tag 4) _ _ h)
index_there (some i) r h k = (ap (λ (l : List (List ℕ)). some (i.0, l)) (front_there 5 i.1 r k), rest_there 5 i.1 r k)

module _ (v : RawView) where
  abbrev sixes : List Field
  sixes = map (one 6) v.segments

  -- no field with a tag below 6 begins the segments
  not_six : (t : ℕ) → t < 6 → T (not (starts t sixes))
  not_six t l = rw (append-nil sixes) at (others t 6 v.segments [] (omega arith) tt)

  threes_rest : rest 3 (body_fields v) ≡ index_fields v.index ++ sixes
  threes_rest = rest_there 3 v.lines (index_fields v.index ++ sixes) (index_not_three v.index sixes (not_six 3 (omega arith)))

  index_rest_lem : index_rest (index_fields v.index ++ sixes) ≡ sixes
  index_rest_lem = (index_there v.index sixes (not_six 4 (omega arith)) (not_six 5 (omega arith))).1

  view_there : view_in (v.head, body_fields v) ≡ v
  view_there =
      let a : front 3 (body_fields v) ≡ v.lines = front_there 3 v.lines (index_fields v.index ++ sixes) (index_not_three v.index sixes (not_six 3 (omega arith))) in
      let b : index_in (rest 3 (body_fields v)) ≡ v.index = ap index_in threes_rest ∙ (index_there v.index sixes (not_six 4 (omega arith)) (not_six 5 (omega arith))).0 in
      let d : front 6 (index_rest (rest 3 (body_fields v))) ≡ v.segments
      = ap (λ (r : List Field). front 6 (index_rest r)) threes_rest ∙ ap (front 6) (index_rest_lem) ∙ ap (front 6) (sym (append-nil sixes)) ∙ front_there 6 v.segments [] tt in
      λ i. record { head = v.head; lines = a i; index = b i; segments = d i }

  used_up_lem : T (used_up (v.head, body_fields v))
  used_up_lem =
      let z : rest 6 (index_rest (rest 3 (body_fields v))) ≡ []
      = ap (λ (r : List Field). rest 6 (index_rest r)) threes_rest ∙ ap (rest 6) (index_rest_lem) ∙ ap (rest 6) (sym (append-nil sixes)) ∙ rest_there 6 v.segments [] tt in
      rw z tt

-- ---- the views, parted before each 02

abbrev joined : List (List ℕ × List Field) → List Field
joined [] = []
joined (p ∷ ps) = one 2 p.0 ∷ (p.1 ++ joined ps)

parted_joined : (fs : List Field) → fs ≡ (parted fs).0 ++ joined (parted fs).1
parted_joined [] = refl
parted_joined (f ∷ fs) =
    pick_case (λ (p : Parts). (f ∷ fs) ≡ p.0 ++ joined p.1) (eqb f.tag 2) _ _
    (λ t. ap₂ (λ (x : Field) (y : List Field). x ∷ y) (retag 2 f (eqb→eq f.tag 2 t)) (parted_joined fs))
    (λ t. ap (λ (y : List Field). f ∷ y) (parted_joined fs))

joined_views : (ps : List (List ℕ × List Field)) → T (every used_up ps) → joined ps ≡ views_fields (map view_in ps)
joined_views [] t = refl
joined_views (p ∷ ps) t =
    let (a, b) = and_yes (used_up p) (every used_up ps) t in
    ap₂ (λ (x y : List Field). one 2 p.0 ∷ (x ++ y)) (body_back p a) (joined_views ps b)

abbrev NotTwo : Field → Type 0
NotTwo f = f.tag ≢ 2

parted_more : (xs fs : List Field) → All NotTwo xs → parted (xs ++ fs) ≡ (xs ++ (parted fs).0, (parted fs).1)
parted_more [] fs h = refl
parted_more (x ∷ xs) fs h =
    rw (eqb_false x.tag 2 h.0)
    (ap (λ (p : Parts). (x ∷ p.0, p.1)) (parted_more xs fs h.1))

all_one : (t : ℕ) (vs : List (List ℕ)) → t ≢ 2 → All NotTwo (map (one t) vs)
all_one t [] n = tt
all_one t (v ∷ vs) n = (n, all_one t vs n)

index_not_two : (o : Option (List ℕ × List (List ℕ))) → All NotTwo (index_fields o)
index_not_two none = tt
index_not_two (some i) = (omega arith, all_one 5 i.1 (omega arith))

body_not_two : (v : RawView) → All NotTwo (body_fields v)
body_not_two v =
    all_append NotTwo (map (one 3) v.lines) _ (all_one 3 v.lines (omega arith))
    (all_append NotTwo (index_fields v.index) _ (index_not_two v.index) (all_one 6 v.segments (omega arith)))

abbrev piece : RawView → List ℕ × List Field
piece v = (v.head, body_fields v)

parted_views : (vs : List RawView) → parted (views_fields vs) ≡ ([], map piece vs)
parted_views [] = refl
parted_views (v ∷ vs) =
    let e : parted (body_fields v ++ views_fields vs) ≡ (body_fields v ++ [], map piece vs)
    = parted_more (body_fields v) (views_fields vs) (body_not_two v) ∙ ap (λ (p : Parts). (body_fields v ++ p.0, p.1)) (parted_views vs) in
    ap (λ (p : Parts). ([], (v.head, p.0) ∷ p.1)) e
    ∙ ap (λ (b : List Field). ([], (v.head, b) ∷ map piece vs)) (append-nil (body_fields v))

views_there : (vs : List RawView) → map view_in (map piece vs) ≡ vs
views_there [] = refl
views_there (v ∷ vs) = ap₂ (λ (x : RawView) (y : List RawView). x ∷ y) (view_there v) (views_there vs)

all_used_up : (vs : List RawView) → T (every used_up (map piece vs))
all_used_up [] = tt
all_used_up (v ∷ vs) = yes_and (used_up (piece v)) _ (used_up_lem v) (all_used_up vs)

-- ---- the sheet

pub sheet_there : (s : RawSheet) → sheet_in (sheet_fields s) ≡ s
sheet_there s =
    let e : map view_in (parted (views_fields s.views)).1 ≡ s.views
    = ap (λ (p : Parts). map view_in p.1) (parted_views s.views) ∙ views_there s.views in
    λ i. record { head = s.head; views = e i }

pub grammar_there : (s : RawSheet) → T (sheet_shape s) → T (grammar (sheet_fields s))
unfolding grammar
grammar_there s t =
    yes_and (in_order (sheet_fields s)) _
    (rw (parted_views s.views) (true_all (true ∷ true ∷ every used_up (map piece s.views) ∷ []) (tt, (tt, (all_used_up s.views, tt))))) (subst (λ (x : RawSheet). T (sheet_shape x)) (sym (sheet_there s)) t)

pub grammar_back : (fs : List Field) → T (grammar fs) → (fs ≡ sheet_fields (sheet_in fs)) × T (sheet_shape (sheet_in fs))
unfolding grammar
grammar_back [] t = absurd t
grammar_back (f ∷ fs) t =
    let (o, sh) = and_yes (in_order (f ∷ fs)) (sheet_shape (sheet_in (f ∷ fs))) t in
    let (a, (b, (u, k))) = all_true_lem (eqb f.tag 1 ∷ empty? (parted fs).0 ∷ every used_up (parted fs).1 ∷ []) o in
    let z : (parted fs).0 ≡ [] = empty_is (parted fs).0 (T_true (empty? (parted fs).0) b) in (
      ap₂ (λ (x : Field) (y : List Field). x ∷ y) (retag 1 f (eqb→eq f.tag 1 a))
          (parted_joined fs ∙ ap (λ (x : List Field). x ++ joined (parted fs).1) z ∙ joined_views (parted fs).1 u),
      sh,
    )
