-- The sheet: how far a loop over its views has come, and which answer the grammar gives where the loop ends. The loop ends, since less
-- stands behind each view than from its 02 on.
use mathlib.Core.Path.{◌≡◌, refl, sym, ap, ◌∙◌, subst}
use Prim.Native.Nat.{ℕ, ◌+◌, ◌-◌, ◌≤◌, ◌<◌}
use native.Mathlib.Omega.{arith}
use mathlib.Core.Bool.{Bool, true, false, not, ◌&&◌}
use mathlib.Core.List.{List, [], ◌∷◌}
use lib.ListN.{length, length-append, length-drop}
use lib.Dec.{T, leb, ltb, eqb, le→leb}
use mir.Facts.{T_not, not_T, yes_and, yes_eqb}
use Rattle.bits.specs.Choice.{within}
use Rattle.bits.specs.ChoiceLaws.{T_true, T_false, eqb_true, eqb_false, eq_split}
use Rattle.bits.specs.Codec.{got}
use Rattle.put_bytes.specs.HighFirst.{joined}
use Rattle.sheet.specs.Fields.{Field}
use Rattle.sheet.specs.Grammar.{rest, index_rest, grammar}
use Rattle.check_fields.specs.Fields.{field_bytes, FieldsAt, Fields}
use Rattle.check_fields.proofs.Laws.{field_long, no_fields, some_fields}
use Rattle.check_shape.specs.Shape.{begins, view_right, view_rest, ViewFieldsAt, Shape}
use Rattle.check_shape.proofs.Laws.Views.{views_right, views, views_on, views_wrong, grammar_is, grammar_begins}
use Rattle.check_shape.proofs.Laws.Stand.{Begun}

-- ---- what stands behind a view is less

abbrev bytes : List Field → ℕ
bytes fs = length (joined field_bytes fs)

rest_less : (t : ℕ) (fs : List Field) → bytes (rest t fs) ≤ bytes fs
rest_less t [] = omega arith
rest_less t (f ∷ fs) =
    eq_split f.tag t
    (λ e. rw (eqb_true f.tag t e) (omega (arith, rest_less t fs, length-append (field_bytes f) (joined field_bytes fs))))
    (λ n. rw (eqb_false f.tag t n) (omega arith))

index_less : (fs : List Field) → bytes (index_rest fs) ≤ bytes fs
index_less [] = omega arith
index_less (f ∷ fs) =
    eq_split f.tag 4
    (λ e. rw (eqb_true f.tag 4 e) (omega (arith, rest_less 5 fs, length-append (field_bytes f) (joined field_bytes fs))))
    (λ n. rw (eqb_false f.tag 4 n) (omega arith))

pub further : {s : List ℕ} {p e : ℕ} {fs : List Field} → FieldsAt s p fs → ViewFieldsAt s fs e → p < e
further {fs = []} h v = absurd v.right
further {s} {p} {e} {fs = f ∷ fs} h v =
    let a : length s - p ≡ bytes (f ∷ fs) = sym (length-drop p s) ∙ ap length h.is in
    let b : length s - e ≡ bytes (view_rest (f ∷ fs)) = sym (length-drop e s) ∙ ap length v.behind.is in
    omega (arith, a, b, length-append (field_bytes f) (joined field_bytes fs), field_long f, rest_less 3 fs, index_less (rest 3 fs), rest_less 6 (index_rest (rest 3 fs)), h.within, v.behind.within)

-- ---- a loop over the views: n of those of the fields fs are passed, and are right

pub record Going (s : List ℕ) (fs : List Field) (n p : ℕ) : Type 0 where
  pub left : List Field
  pub stand : FieldsAt s p left
  pub count : n + views left ≡ views fs
  pub right : views_right left ≡ views_right fs

pub going_first : {s : List ℕ} {p : ℕ} {fs : List Field} → FieldsAt s p fs → Going s fs 0 p
going_first {fs = fs} h = record { left = fs; stand = h; count = omega arith; right = refl }

module _ {s : List ℕ} {fs : List Field} {n p : ℕ} (g : Going s fs n p) where
  pub going_on : {e : ℕ} → ViewFieldsAt s g.left e → Going s fs (n + 1) e
  going_on v =
      let (a, b) = views_on g.left v.right in
      record { left = view_rest g.left; stand = v.behind; count = omega (arith, g.count, b); right = sym a ∙ g.right }

  pub going_wrong : p < length s → T (not (view_right g.left)) → T (not (views_right fs))
  going_wrong l u =
      subst (λ (b : Bool). T (not b)) g.right
      (some_fields g.stand l (λ f gs z. views_wrong g.left (omega (arith, ap length z)) u))

  pub going_all : length s ≤ p → (n ≡ views fs) × T (views_right fs)
  going_all l =
      let z : g.left ≡ [] = no_fields g.stand l in
      (omega (arith, g.count, ap views z), subst T (sym (ap views_right z) ∙ g.right) tt)

-- ---- the answer

pub shape_is : {s : List ℕ} (F : Fields s) (r : Bool) → r ≡ grammar F.value → Shape s r
shape_is F r e = record { is = λ fs h. let z : got F.value [] ≡ got fs [] = sym F.reads ∙ h in let y : F.value ≡ fs = cc in e ∙ ap grammar y }

pub no_first : (fs : List Field) → T (not (begins 1 9 fs)) → false ≡ grammar fs
no_first fs u = sym (T_false (grammar fs) (not_T (grammar fs) (λ t. T_not (begins 1 9 fs) (grammar_begins fs t) u)))

module _ {s : List ℕ} {p : ℕ} {fs : List Field} (B : Begun 1 9 s p fs) where
  grammar_begun : grammar fs ≡ (within 1 255 (views B.others) && views_right B.others)
  grammar_begun =
      ap grammar B.is ∙ grammar_is B.field B.others (yes_and (eqb B.field.tag 1) (eqb (length B.field.value) 9) (yes_eqb B.tag) (yes_eqb B.size))

  pub views_not : T (not (views_right B.others)) → false ≡ grammar fs
  views_not u = sym (grammar_begun ∙ ap (λ (b : Bool). within 1 255 (views B.others) && b) (T_false (views_right B.others) u) ∙ and_false (within 1 255 (views B.others)))
    where
      and_false : (a : Bool) → (a && false) ≡ false
      and_false true = refl
      and_false false = refl

  module _ {n : ℕ} (e : n ≡ views B.others) (t : T (views_right B.others)) where
    counted : grammar fs ≡ (within 1 255 n && true)
    counted = grammar_begun ∙ (λ i. within 1 255 (sym e i) && T_true (views_right B.others) t i)

    pub no_views : n ≤ 0 → ltb 0 n ≡ grammar fs
    no_views l = let z : n ≡ 0 = omega arith in ap (ltb 0) z ∙ sym (counted ∙ ap (λ (k : ℕ). within 1 255 k && true) z)

    pub some_views : 0 < n → leb n 255 ≡ grammar fs
    some_views z = sym (counted ∙ go (leb 1 n) (leb n 255) (le→leb 1 n (omega arith)))
      where
        go : (a b : Bool) → T a → ((a && b) && true) ≡ b
        go true true h = refl
        go true false h = refl
        go false b h = absurd h
