-- A view where it stands: what each test of code says of it, in the order of the code. A test that fails makes the view wrong; those
-- that are passed make it right together.
use mathlib.Core.Path.{sym, ap, subst}
use Prim.Native.Nat.{ℕ, ◌≤◌, ◌<◌}
use native.Mathlib.Omega.{arith}
use mathlib.Core.Bool.{not}
use mathlib.Core.List.{List, [], ◌∷◌}
use lib.ListN.{length}
use lib.Dec.{T, eqb}
use mir.Facts.{T_not, not_T, yes_and, yes_eqb}
use Rattle.sheet.specs.Fields.{Field}
use Rattle.sheet.specs.Grammar.{rest, index_in, index_rest, index_shape}
use Rattle.check_fields.specs.Fields.{FieldsAt}
use Rattle.check_shape.specs.Shape.{begins, all_sized, view_right, view_rest, PassedAt, IndexFieldsAt, ViewFieldsAt}
use Rattle.check_shape.proofs.Laws.Sizes.{line_kind, segment_kind, lines_sized, segments_sized}
use Rattle.check_shape.proofs.Laws.Views.{Tests, view_tests, tests_view}
use Rattle.check_shape.proofs.Laws.Stand.{Begun}

pub no_view_lem : (fs : List Field) → T (not (begins 2 8 fs)) → T (not (view_right fs))
no_view_lem [] u = tt
no_view_lem (f ∷ fs) u =
    not_T (view_right (f ∷ fs)) λ t.
    let r = view_tests f fs t in
    T_not (begins 2 8 (f ∷ fs)) (yes_and (eqb f.tag 2) (eqb (length f.value) 8) (yes_eqb r.tag) (yes_eqb r.head)) u

module _ {s : List ℕ} {p : ℕ} {fs : List Field} (B : Begun 2 8 s p fs) where
  view_wrong : (Tests B.field B.others → ⊥) → T (not (view_right fs))
  view_wrong no_tests =
      subst (λ (x : List Field). T (not (view_right x))) (sym B.is)
      (not_T (view_right (B.field ∷ B.others)) (λ t. no_tests (view_tests B.field B.others t)))

  pub lines_wrong : T (not (all_sized line_kind B.others)) → T (not (view_right fs))
  lines_wrong u = view_wrong (λ r. T_not (all_sized line_kind B.others) (subst T (sym (lines_sized B.others B.behind.fits)) r.lines) u)

  module _ {n i : ℕ} (L : PassedAt line_kind s B.others n i) where
    pub too_many : 1024 < n → T (not (view_right fs))
    too_many l = view_wrong (λ r. omega (arith, L.count, r.most))

    pub index_wrong : T (not (index_shape n (index_in (rest 3 B.others)))) → T (not (view_right fs))
    index_wrong u =
        view_wrong λ r.
        T_not (index_shape n (index_in (rest 3 B.others))) (subst (λ (k : ℕ). T (index_shape k (index_in (rest 3 B.others)))) (sym L.count) r.index) u

    module _ {g : ℕ} (I : IndexFieldsAt n s (rest 3 B.others) g) where
      pub segments_wrong : T (not (all_sized segment_kind (index_rest (rest 3 B.others)))) → T (not (view_right fs))
      segments_wrong u =
          view_wrong λ r.
          T_not (all_sized segment_kind (index_rest (rest 3 B.others))) (subst T (sym (segments_sized (index_rest (rest 3 B.others)) I.behind.fits)) r.segments) u

      pub view_right_lem : {m e : ℕ} → n ≤ 1024 → PassedAt segment_kind s (index_rest (rest 3 B.others)) m e → ViewFieldsAt s fs e
      view_right_lem {e = e} l G =
          record {
            behind = subst (λ (x : List Field). FieldsAt s e x) (ap view_rest (sym B.is)) G.behind;
            right =
                subst (λ (x : List Field). T (view_right x)) (sym B.is)
                (tests_view B.field B.others record {
                  tag = B.tag;
                  head = B.size;
                  lines = subst T (lines_sized B.others B.behind.fits) L.right;
                  most = omega (arith, L.count);
                  index = subst (λ (k : ℕ). T (index_shape k (index_in (rest 3 B.others)))) L.count I.right;
                  segments = subst T (segments_sized (index_rest (rest 3 B.others)) I.behind.fits) G.right;
                });
          }
