-- The grammar parts the fields before each 02 and looks at the parts; code goes on from where it is. Both find the same fields of a
-- view, since none of them is an 02, and what stands behind them is what is left of the parts.
use mathlib.Core.Path.{◌≡◌, refl, sym, ap, ◌∙◌}
use mathlib.Core.Logic.{◌≢◌}
use Prim.Native.Nat.{ℕ}
use native.Mathlib.Omega.{arith}
use mathlib.Core.List.{List, [], ◌∷◌}
use Rattle.bits.specs.ChoiceLaws.{eqb_true, eqb_false, eq_split}
use Rattle.sheet.specs.Fields.{Field}
use Rattle.sheet.specs.Grammar.{Parts, parted, front, rest, index_in, index_rest, view_in}

pub parted_at : (f : Field) (fs : List Field) → f.tag ≡ 2 → parted (f ∷ fs) ≡ ([], (f.value, (parted fs).0) ∷ (parted fs).1)
parted_at f fs e = rw (eqb_true f.tag 2 e) refl

pub parted_not : (f : Field) (fs : List Field) → f.tag ≢ 2 → parted (f ∷ fs) ≡ (f ∷ (parted fs).0, (parted fs).1)
parted_not f fs n = rw (eqb_false f.tag 2 n) refl

-- ---- fields of one tag

module _ (t : ℕ) (other : t ≢ 2) where
  front_parted : (fs : List Field) → front t (parted fs).0 ≡ front t fs
  front_parted [] = refl
  front_parted (f ∷ fs) =
      eq_split f.tag 2
      (λ e. rw (eqb_true f.tag 2 e, eqb_false f.tag t (omega arith)) refl)
      (λ n. rw (eqb_false f.tag 2 n, front_parted fs) refl)

  rest_parted : (fs : List Field) → parted (rest t fs) ≡ (rest t (parted fs).0, (parted fs).1)
  rest_parted [] = refl
  rest_parted (f ∷ fs) =
      eq_split f.tag t
      (λ e. let n : f.tag ≢ 2 = omega arith in rw (eqb_true f.tag t e, eqb_false f.tag 2 n, eqb_true f.tag t e) (rest_parted fs))
      (λ n. eq_split f.tag 2 (λ e. rw (eqb_false f.tag t n, eqb_true f.tag 2 e) refl) (λ m. rw (eqb_false f.tag t n, eqb_false f.tag 2 m, eqb_false f.tag t n) refl))

-- ---- the index

index_in_parted : (fs : List Field) → index_in (parted fs).0 ≡ index_in fs
index_in_parted [] = refl
index_in_parted (f ∷ fs) =
    eq_split f.tag 2
    (λ e. rw (eqb_true f.tag 2 e, eqb_false f.tag 4 (omega arith)) refl)
    (λ n. rw (eqb_false f.tag 2 n, front_parted 5 (omega arith) fs) refl)

index_rest_parted : (fs : List Field) → parted (index_rest fs) ≡ (index_rest (parted fs).0, (parted fs).1)
index_rest_parted [] = refl
index_rest_parted (f ∷ fs) =
    eq_split f.tag 4
    (λ e. rw (eqb_true f.tag 4 e, eqb_false f.tag 2 (omega arith), eqb_true f.tag 4 e) (rest_parted 5 (omega arith) fs))
    (λ n. eq_split f.tag 2 (λ e. rw (eqb_false f.tag 4 n, eqb_true f.tag 2 e) refl) (λ m. rw (eqb_false f.tag 4 n, eqb_false f.tag 2 m, eqb_false f.tag 4 n) refl))

-- ---- a view whose 02 is passed

module _ (fs : List Field) where
  threes : parted (rest 3 fs) ≡ (rest 3 (parted fs).0, (parted fs).1)
  threes = rest_parted 3 (omega arith) fs

  index : parted (index_rest (rest 3 fs)) ≡ (index_rest (rest 3 (parted fs).0), (parted fs).1)
  index = index_rest_parted (rest 3 fs) ∙ ap (λ (p : Parts). (index_rest p.0, p.1)) threes

  pub rest_behind : parted (rest 6 (index_rest (rest 3 fs))) ≡ (rest 6 (index_rest (rest 3 (parted fs).0)), (parted fs).1)
  rest_behind = rest_parted 6 (omega arith) (index_rest (rest 3 fs)) ∙ ap (λ (p : Parts). (rest 6 p.0, p.1)) index

  pub view_parted : (v : List ℕ) → view_in (v, (parted fs).0) ≡ view_in (v, fs)
  view_parted v =
      let a : front 3 (parted fs).0 ≡ front 3 fs = front_parted 3 (omega arith) fs in
      let b : index_in (rest 3 (parted fs).0) ≡ index_in (rest 3 fs) = ap (λ (p : Parts). index_in p.0) (sym threes) ∙ index_in_parted (rest 3 fs) in
      let d : front 6 (index_rest (rest 3 (parted fs).0)) ≡ front 6 (index_rest (rest 3 fs)) = ap (λ (p : Parts). front 6 p.0) (sym index) ∙ front_parted 6 (omega arith) (index_rest (rest 3 fs)) in
      λ i. record { head = v; lines = a i; index = b i; segments = d i }
