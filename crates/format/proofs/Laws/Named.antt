-- Views by name: which place a name means, that no two views of an allowed record have the same name, and that a name means the same
-- place where the headers stay.
use mathlib.Core.Path.{◌≡◌, refl, sym, ap, ap₂, ◌∙◌}
use mathlib.Core.Logic.{◌≢◌}
use Prim.Native.Nat.{ℕ, zero, suc, ◌≤◌, ◌<◌}
use native.Mathlib.Omega.{arith}
use mathlib.Core.List.{List, [], ◌∷◌}
use lib.ListN.{length, get_or, set}
use lib.Dec.{T, eqb}
use mir.Facts.{and_yes, yes_and, eqb_yes, yes_eqb}
use Rattle.bits.specs.Choice.{pick}
use Rattle.bits.specs.ChoiceLaws.{pick_yes, pick_case, pick_split}
use Rattle.bits.specs.Lists.{Along}
use Rattle.format.specs.View.{View, FitsHead, occurs, view, view_header}
use Rattle.format.specs.Record.{Record, tell_seen, Allowed}
use Rattle.format.specs.Places.{no_view_there, view_at}
use Rattle.format.specs.Named.{name_of, same_name, place_in, Means}
use Rattle.format.specs.declared.Widths.{Widths}
use Rattle.format.specs.declared.ViewHeader.{ViewHeader}
use Rattle.format.specs.declared.ViewName.{ViewName}

-- ---- two names

pub same_is : (m n : ViewName) → T (same_name m n) → m ≡ n
same_is m n t =
    let (f, k) = and_yes (eqb m.finger n.finger) (eqb m.number n.number) t in
    ap₂ (λ (x y : ℕ). record { finger = x; number = y }) (eqb_yes f) (eqb_yes k)

pub is_same : (m n : ViewName) → m ≡ n → T (same_name m n)
is_same m n e =
    yes_and (eqb m.finger n.finger) (eqb m.number n.number) (yes_eqb (ap (λ (x : ViewName). x.finger) e))
    (yes_eqb (ap (λ (x : ViewName). x.number) e))

-- ---- a place that is there, and the view at it

pub here : (name : ViewName) (r : Record) → place_in name r.views < length r.views → Means name r (place_in name r.views)
here name r l = record { is = refl; there = l }

place_name : (name : ViewName) (vs : List View) → place_in name vs < length vs → name_of (get_or vs (place_in name vs) no_view_there) ≡ name
place_name name [] l = absurd (omega arith)
place_name name (v ∷ vs) l =
    pick_case (λ (i : ℕ). i < suc (length vs) → name_of (get_or (v ∷ vs) i no_view_there) ≡ name) (same_name (name_of v) name) _ _
    (λ t _. same_is (name_of v) name t) (λ t k. place_name name vs (omega arith)) l

-- the view that is meant has the name
pub means_name : {name : ViewName} {r : Record} {i : ℕ} → Means name r i → name_of (view_at r i) ≡ name
means_name {name} {r} m = rw (← m.is) (place_name name r.views (omega (arith, m.is, m.there)))

-- a name that no view has means none
pub none_named : (name : ViewName) (vs : List View) → ((i : ℕ) → i < length vs → name_of (get_or vs i no_view_there) ≢ name) → place_in name vs ≡ length vs
none_named name [] h = refl
none_named name (v ∷ vs) h =
    pick_case (λ (i : ℕ). i ≡ suc (length vs)) (same_name (name_of v) name) _ _
    (λ t. absurd (h 0 (omega arith) (same_is (name_of v) name t)))
    (λ t. ap suc (none_named name vs (λ i l. h (suc i) (omega arith))))

-- and one that a view has means some
pub some_named : (name : ViewName) (vs : List View) (i : ℕ) → i < length vs → name_of (get_or vs i no_view_there) ≡ name → place_in name vs < length vs
some_named name [] i l e = absurd (omega arith)
some_named name (v ∷ vs) zero l e = rw (pick_yes (same_name (name_of v) name) 0 (suc (place_in name vs)) (is_same (name_of v) name e)) (omega arith)
some_named name (v ∷ vs) (suc i) l e =
    pick_case (λ (k : ℕ). k < suc (length vs)) (same_name (name_of v) name) _ _ (λ t. omega arith)
    (λ t. omega (arith, some_named name vs i (omega arith) e))

-- ---- no two views have the same name: each is numbered by how many before it have its position

numbered : (earlier : ℕ → ℕ) (h : ViewHeader) → FitsHead earlier h → h.number ≡ earlier h.position
numbered earlier h f =
    pick_split (eqb h.number (earlier h.position)) _ _ f.right (λ t _. eqb_yes t)
    (λ t q. let z : ◌≡◌ {A = ℕ} 0 1 = cc in absurd (omega arith))

module _ (w : Widths) where
  abbrev FitsFrom : List ℕ → List View → Type 0
  FitsFrom seen vs = Along tell_seen (λ s v. (view w s).Fits v) seen vs

  pub fits_number : (seen : List ℕ) (v : View) → (view w seen).Fits v → v.head.number ≡ occurs v.head.position seen
  unfolding view view_header
  fits_number seen v f = numbered (λ p. occurs p seen) v.head f.0.0.0

  -- as many of its position are before it, at least
  number_least : (seen : List ℕ) (vs : List View) → FitsFrom seen vs → (i : ℕ) → i < length vs
      → occurs (get_or vs i no_view_there).head.position seen ≤ (get_or vs i no_view_there).head.number
  number_least seen [] h i l = absurd (omega arith)
  number_least seen (v ∷ vs) h zero l = omega (arith, fits_number seen v h.0)
  number_least seen (v ∷ vs) h (suc i) l =
      let p : ℕ = (get_or vs i no_view_there).head.position in
      let k : occurs p seen ≤ occurs p (v.head.position ∷ seen) =
      pick_case (λ (n : ℕ). occurs p seen ≤ n) (eqb p v.head.position) _ _ (λ t. omega arith) (λ t. omega arith) in
      omega (arith, k, number_least (tell_seen seen v) vs h.1 i (omega arith))

  -- so those behind a view have other names
  others_named : (seen : List ℕ) (v : View) (vs : List View) → FitsFrom seen (v ∷ vs) → (i : ℕ) → i < length vs
      → name_of v ≢ name_of (get_or vs i no_view_there)
  others_named seen v vs h i l e =
      let u : View = get_or vs i no_view_there in
      let p : u.head.position ≡ v.head.position = sym (ap (λ (x : ViewName). x.finger) e) in
      let n : v.head.number ≡ u.head.number = ap (λ (x : ViewName). x.number) e in
      let k : occurs u.head.position (v.head.position ∷ seen) ≡ suc (occurs u.head.position seen) =
      pick_yes (eqb u.head.position v.head.position) _ _ (yes_eqb p) in
      let j : occurs u.head.position seen ≡ occurs v.head.position seen = ap (λ (q : ℕ). occurs q seen) p in
      absurd (omega (arith, n, k, j, fits_number seen v h.0, number_least (tell_seen seen v) vs h.1 i l))

  name_place : (seen : List ℕ) (vs : List View) → FitsFrom seen vs → (i : ℕ) → i < length vs → place_in (name_of (get_or vs i no_view_there)) vs ≡ i
  name_place seen [] h i l = absurd (omega arith)
  name_place seen (v ∷ vs) h zero l = pick_yes (same_name (name_of v) (name_of v)) _ _ (is_same (name_of v) (name_of v) refl)
  name_place seen (v ∷ vs) h (suc i) l =
      let name : ViewName = name_of (get_or vs i no_view_there) in
      pick_case (λ (k : ℕ). k ≡ suc i) (same_name (name_of v) name) _ _
      (λ t. absurd (others_named seen v vs h i (omega arith) (same_is (name_of v) name t)))
      (λ t. ap suc (name_place (tell_seen seen v) vs h.1 i (omega arith)))

-- ---- an allowed record

module _ (r : Record) (a : Allowed r) where
  -- a view's name means the view
  pub name_means : (i : ℕ) → i < length r.views → Means (name_of (view_at r i)) r i
  name_means i l = record { is = name_place r.head.scale.widths [] r.views a.fits.views i l; there = l }

  pub unique : (i j : ℕ) → i < length r.views → j < length r.views → name_of (view_at r i) ≡ name_of (view_at r j) → i ≡ j
  unique i j k l e = sym (name_means i k).is ∙ ap (λ (name : ViewName). place_in name r.views) e ∙ (name_means j l).is

-- ---- another view with the header of one

pub places_keep : (name : ViewName) (vs : List View) (i : ℕ) (u : View) → u.head ≡ (get_or vs i no_view_there).head → place_in name (set vs i u) ≡ place_in name vs
places_keep name [] i u e = refl
places_keep name (v ∷ vs) zero u e = rw e refl
places_keep name (v ∷ vs) (suc i) u e = ap (λ (n : ℕ). pick (same_name (name_of v) name) 0 (suc n)) (places_keep name vs i u e)
