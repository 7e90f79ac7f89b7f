-- The index of a view: its tests in the grammar, and what each test of code says of them. An index that does not start with an 04
-- has no tests: there is none.
use mathlib.Core.Path.{◌≡◌, sym, ap, ◌∙◌, subst}
use mathlib.Core.Logic.{◌≢◌}
use Prim.Native.Nat.{ℕ, ◌%◌}
use native.Mathlib.Omega.{arith}
use mathlib.Core.Bool.{not}
use mathlib.Core.Option.{Option, some}
use mathlib.Core.List.{List, [], ◌∷◌}
use lib.ListN.{length}
use lib.Dec.{T, eqb}
use mir.Facts.{T_not, not_T, yes_and, eqb_yes, yes_eqb}
use Rattle.bits.specs.ChoiceLaws.{pick_yes, pick_no}
use Rattle.bits.specs.Lists.{every}
use Rattle.bits.specs.ListsLaws.{all_true_lem, true_all}
use Rattle.sheet.specs.Fields.{Field}
use Rattle.sheet.specs.Grammar.{front, rest, index_in, index_rest, index_shape}
use Rattle.check_fields.specs.Fields.{FieldsAt}
use Rattle.check_shape.specs.Shape.{starts, begins, all_sized, PassedAt, IndexFieldsAt}
use Rattle.check_shape.proofs.Laws.Sizes.{list_kind, lists_sized}
use Rattle.check_shape.proofs.Laws.Stand.{Begun}

-- ---- an 04, and what stands behind it

pub record Tests (n : ℕ) (f : Field) (fs : List Field) : Type 0 where
  pub width : length f.value ≡ 1
  pub count : length (front 5 fs) ≡ n
  pub lists : T (every (λ l. eqb (length l % 2) 0) (front 5 fs))

module _ (n : ℕ) (f : Field) (fs : List Field) (e : f.tag ≡ 4) where
  index_is : index_in (f ∷ fs) ≡ some (f.value, front 5 fs)
  index_is = pick_yes (eqb f.tag 4) _ _ (yes_eqb e)

  index_rest_lem : index_rest (f ∷ fs) ≡ rest 5 fs
  index_rest_lem = pick_yes (eqb f.tag 4) _ _ (yes_eqb e)

  index_tests_lem : T (index_shape n (index_in (f ∷ fs))) → Tests n f fs
  index_tests_lem t =
      let (a, (b, (d, _))) = all_true_lem (eqb (length f.value) 1 ∷ eqb (length (front 5 fs)) n ∷ every (λ l. eqb (length l % 2) 0) (front 5 fs) ∷ [])
      (subst (λ (o : Option (List ℕ × List (List ℕ))). T (index_shape n o)) index_is t) in
      record { width = eqb_yes a; count = eqb_yes b; lists = d }

  tests_index : Tests n f fs → T (index_shape n (index_in (f ∷ fs)))
  tests_index r =
      subst (λ (o : Option (List ℕ × List (List ℕ))). T (index_shape n o)) (sym index_is)
      (true_all (eqb (length f.value) 1 ∷ eqb (length (front 5 fs)) n ∷ every (λ l. eqb (length l % 2) 0) (front 5 fs) ∷ []) (yes_eqb r.width, (yes_eqb r.count, (r.lists, tt))))

-- ---- no 04, or one of another length

pub no_index_lem : (n : ℕ) {s : List ℕ} {p : ℕ} {fs : List Field} → FieldsAt s p fs → T (not (starts 4 fs)) → IndexFieldsAt n s fs p
no_index_lem n {fs = []} h t = record { behind = h; right = tt }
no_index_lem n {s} {p} {fs = f ∷ fs} h t =
    record {
      behind = subst (λ (x : List Field). FieldsAt s p x) (sym (pick_no (eqb f.tag 4) _ _ t)) h;
      right = subst (λ (o : Option (List ℕ × List (List ℕ))). T (index_shape n o)) (sym (pick_no (eqb f.tag 4) _ _ t)) tt;
    }

pub not_one : (n : ℕ) (fs : List Field) → T (starts 4 fs) → T (not (begins 4 1 fs)) → T (not (index_shape n (index_in fs)))
not_one n [] t u = absurd t
not_one n (f ∷ fs) t u =
    not_T (index_shape n (index_in (f ∷ fs))) λ r.
    T_not (begins 4 1 (f ∷ fs)) (yes_and (eqb f.tag 4) (eqb (length f.value) 1) t (yes_eqb (index_tests_lem n f fs (eqb_yes t) r).width)) u

-- ---- an 04 of one byte

module _ (n : ℕ) {s : List ℕ} {p : ℕ} {fs : List Field} (B : Begun 4 1 s p fs) where
  index_wrong : (Tests n B.field B.others → ⊥) → T (not (index_shape n (index_in fs)))
  index_wrong no_tests =
      subst (λ (x : List Field). T (not (index_shape n (index_in x)))) (sym B.is)
      (not_T (index_shape n (index_in (B.field ∷ B.others))) (λ t. no_tests (index_tests_lem n B.field B.others B.tag t)))

  pub lists_wrong : T (not (all_sized list_kind B.others)) → T (not (index_shape n (index_in fs)))
  lists_wrong u =
      index_wrong λ r.
      T_not (all_sized list_kind B.others) (subst T (sym (lists_sized B.others B.behind.fits)) r.lists) u

  module _ {m next : ℕ} (L : PassedAt list_kind s B.others m next) where
    pub count_wrong : m ≢ n → T (not (index_shape n (index_in fs)))
    count_wrong u = index_wrong (λ r. u (omega (arith, L.count, r.count)))

    pub index_right : m ≡ n → IndexFieldsAt n s fs next
    index_right e =
        record {
          behind = subst (λ (x : List Field). FieldsAt s next x) (sym (index_rest_lem n B.field B.others B.tag) ∙ ap index_rest (sym B.is)) L.behind;
          right =
              subst (λ (x : List Field). T (index_shape n (index_in x))) (sym B.is)
              (tests_index n B.field B.others B.tag record {
                width = B.size;
                count = omega (arith, L.count);
                lists = subst T (lists_sized B.others B.behind.fits) L.right;
              });
        }
