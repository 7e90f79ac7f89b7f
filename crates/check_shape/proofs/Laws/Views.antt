-- The grammar, view by view: the tests of one, what is left to be tested behind a right one, and those of the sheet. Code goes over
-- the views in this order, and the grammar tests all of them for one thing before the next.
use mathlib.Core.Path.{◌≡◌, refl, sym, ap, ◌∙◌, subst}
use Prim.Native.Nat.{ℕ, ◌+◌, ◌≤◌}
use native.Mathlib.Omega.{arith}
use mathlib.Core.Bool.{Bool, true, false, not, ◌&&◌}
use mathlib.Core.List.{List, [], ◌∷◌, map}
use lib.ListN.{length, length-map}
use lib.Dec.{T, leb, eqb}
use mir.Facts.{T_not, not_T, and_yes, yes_and, yes_eqb, eqb_yes, yes_leb, leb_yes}
use Rattle.bits.specs.Choice.{within}
use Rattle.bits.specs.ChoiceLaws.{eq_split}
use Rattle.bits.specs.Lists.{every, all_true, empty?}
use Rattle.bits.specs.ListsLaws.{all_true_lem, true_all}
use Rattle.format.specs.Limits.{most_lines}
use Rattle.sheet.specs.Fields.{Field}
use Rattle.sheet.specs.Grammar.{Parts, parted, front, rest, index_in, index_rest, view_in, used_up, sheet_in, index_shape, view_shape, sheet_shape, in_order, grammar}
use Rattle.check_shape.specs.Shape.{begins, view_right, view_rest}
use Rattle.check_shape.proofs.Laws.Parted.{parted_at, parted_not, rest_behind, view_parted}
use Rattle.check_shape.proofs.Laws.Sizes.{same}

-- ---- one view

-- fs stand behind its 02
pub record Tests (f : Field) (fs : List Field) : Type 0 where
  pub tag : f.tag ≡ 2
  pub head : length f.value ≡ 8
  pub lines : T (every (λ l. within 12 267 (length l)) (front 3 fs))
  pub most : length (front 3 fs) ≤ 1024
  pub index : T (index_shape (length (front 3 fs)) (index_in (rest 3 fs)))
  pub segments : T (every (λ g. leb 2 (length g)) (front 6 (index_rest (rest 3 fs))))

module _ (f : Field) (fs : List Field) where
  abbrev shapes : List Bool
  shapes =
      eqb (length f.value) 8 ∷ every (λ l. within 12 267 (length l)) (front 3 fs) ∷ leb (length (front 3 fs)) most_lines
      ∷ index_shape (length (front 3 fs)) (index_in (rest 3 fs)) ∷ every (λ g. leb 2 (length g)) (front 6 (index_rest (rest 3 fs))) ∷ []

  pub view_tests : T (view_right (f ∷ fs)) → Tests f fs
  unfolding most_lines
  view_tests t =
      let (a, b) = and_yes (eqb f.tag 2) (all_true shapes) t in
      let (h, (l, (m, (i, (g, _))))) = all_true_lem shapes b in
      record { tag = eqb_yes a; head = eqb_yes h; lines = l; most = leb_yes m; index = i; segments = g }

  pub tests_view : Tests f fs → T (view_right (f ∷ fs))
  unfolding most_lines
  tests_view r =
      yes_and (eqb f.tag 2) (all_true shapes) (yes_eqb r.tag)
      (true_all shapes (yes_eqb r.head, (r.lines, (yes_leb r.most, (r.index, (r.segments, tt))))))

-- ---- the views

abbrev parts_right : Parts → Bool
parts_right p = all_true (empty? p.0 ∷ every used_up p.1 ∷ every view_shape (map view_in p.1) ∷ [])

abbrev pub views_right : List Field → Bool
views_right fs = parts_right (parted fs)

abbrev pub views : List Field → ℕ
views fs = length (parted fs).1

shape_parted : (f : Field) (fs : List Field) → view_shape (view_in (f.value, (parted fs).0)) ≡ view_shape (view_in (f.value, fs))
shape_parted f fs = ap view_shape (view_parted fs f.value)

module _ (f : Field) (fs : List Field) (t : T (view_right (f ∷ fs))) where
  two : f.tag ≡ 2
  two = (view_tests f fs t).tag

  rest_right : views_right (f ∷ fs) ≡ views_right (view_rest (f ∷ fs))
  rest_right =
      ap parts_right (parted_at f fs two)
      ∙ go (used_up (f.value, (parted fs).0)) (view_shape (view_in (f.value, (parted fs).0))) (every used_up (parted fs).1) (every view_shape (map view_in (parted fs).1))
      (subst T (sym (shape_parted f fs)) (and_yes (eqb f.tag 2) (view_shape (view_in (f.value, fs))) t).1)
      ∙ ap parts_right (sym (rest_behind fs))
    where
      go : (u v a b : Bool) → T v → ((u && a) && ((v && b) && true)) ≡ (u && (a && (b && true)))
      go true true a b h = refl
      go true false a b h = absurd h
      go false v a b h = refl

  rest_fewer : views (f ∷ fs) ≡ 1 + views (view_rest (f ∷ fs))
  rest_fewer =
      let a : views (f ∷ fs) ≡ 1 + length (parted fs).1 = ap (λ (p : Parts). length p.1) (parted_at f fs two) ∙ omega arith in
      let b : views (view_rest (f ∷ fs)) ≡ length (parted fs).1 = ap (λ (p : Parts). length p.1) (rest_behind fs) in
      omega (arith, a, b)

-- those behind a right view decide, and are one less
pub views_on : (fs : List Field) → T (view_right fs) → (views_right fs ≡ views_right (view_rest fs)) × (views fs ≡ 1 + views (view_rest fs))
views_on [] t = absurd t
views_on (f ∷ fs) t = (rest_right f fs t, rest_fewer f fs t)

pub first_right : (fs : List Field) → 1 ≤ length fs → T (views_right fs) → T (view_right fs)
first_right [] l t = absurd (omega arith)
first_right (f ∷ fs) l t =
    eq_split f.tag 2
    (λ e.
    let ps : Parts = ([], (f.value, (parted fs).0) ∷ (parted fs).1) in
    let (_, (_, (v, _))) = all_true_lem (true ∷ every used_up ps.1 ∷ every view_shape (map view_in ps.1) ∷ []) (subst (λ (p : Parts). T (parts_right p)) (parted_at f fs e) t) in
    yes_and (eqb f.tag 2) (view_shape (view_in (f.value, fs))) (yes_eqb e)
    (subst T (shape_parted f fs) (and_yes (view_shape (view_in (f.value, (parted fs).0))) (every view_shape (map view_in (parted fs).1)) v).0))
    (λ n. absurd (subst (λ (p : Parts). T (parts_right p)) (parted_not f fs n) t))

pub views_wrong : (fs : List Field) → 1 ≤ length fs → T (not (view_right fs)) → T (not (views_right fs))
views_wrong fs l h = not_T (views_right fs) (λ t. T_not (view_right fs) (first_right fs l t) h)

-- ---- the sheet

abbrev sheet_tests : Field → List Field → List Bool
sheet_tests f fs = eqb (length f.value) 9 ∷ within 1 255 (length (map view_in (parted fs).1)) ∷ every view_shape (map view_in (parted fs).1) ∷ []

abbrev order_tests : Field → List Field → List Bool
order_tests f fs = eqb f.tag 1 ∷ empty? (parted fs).0 ∷ every used_up (parted fs).1 ∷ []

module _ (f : Field) (fs : List Field) where
  grammar_apart : T (grammar (f ∷ fs)) → T (begins 1 9 (f ∷ fs)) × T (within 1 255 (views fs)) × T (views_right fs)
  unfolding grammar
  grammar_apart t =
      let (o, s) = and_yes (in_order (f ∷ fs)) (sheet_shape (sheet_in (f ∷ fs))) t in
      let (a, (e, (u, _))) = all_true_lem (order_tests f fs) o in
      let (h, (n, (v, _))) = all_true_lem (sheet_tests f fs) s in (
        yes_and (eqb f.tag 1) (eqb (length f.value) 9) a h,
        subst (λ (k : ℕ). T (within 1 255 k)) (length-map (parted fs).1 view_in) n,
        true_all (empty? (parted fs).0 ∷ every used_up (parted fs).1 ∷ every view_shape (map view_in (parted fs).1) ∷ []) (e, (u, (v, tt))),
      )

  grammar_made : T (begins 1 9 (f ∷ fs)) → T (within 1 255 (views fs)) → T (views_right fs) → T (grammar (f ∷ fs))
  unfolding grammar
  grammar_made b n v =
      let (a, h) = and_yes (eqb f.tag 1) (eqb (length f.value) 9) b in
      let (e, (u, (w, _))) = all_true_lem (empty? (parted fs).0 ∷ every used_up (parted fs).1 ∷ every view_shape (map view_in (parted fs).1) ∷ []) v in
      yes_and (in_order (f ∷ fs)) (sheet_shape (sheet_in (f ∷ fs)))
      (true_all (order_tests f fs) (a, (e, (u, tt))))
      (true_all (sheet_tests f fs) (h, (subst (λ (k : ℕ). T (within 1 255 k)) (sym (length-map (parted fs).1 view_in)) n, (w, tt))))

  -- behind a right 01
  pub grammar_is : T (begins 1 9 (f ∷ fs)) → grammar (f ∷ fs) ≡ (within 1 255 (views fs) && views_right fs)
  grammar_is b =
      same (grammar (f ∷ fs)) (within 1 255 (views fs) && views_right fs)
      (λ t. let (_, n, v) = grammar_apart t in yes_and (within 1 255 (views fs)) (views_right fs) n v)
      (λ t. let (n, v) = and_yes (within 1 255 (views fs)) (views_right fs) t in grammar_made b n v)

pub grammar_begins : (fs : List Field) → T (grammar fs) → T (begins 1 9 fs)
unfolding grammar
grammar_begins [] t = t
grammar_begins (f ∷ fs) t = (grammar_apart f fs t).0
