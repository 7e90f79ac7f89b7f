-- Fields where they stand in a sheet: the first one, those of a kind, and how far a loop over these has come. What is said of the
-- fields here is said of lists of them elsewhere; this file joins the two.
use mathlib.Core.Path.{◌≡◌, refl, sym, ap, ◌∙◌, subst}
use Prim.Native.Nat.{ℕ, ◌+◌, ◌*◌, ◌≤◌}
use native.Mathlib.Omega.{arith}
use mathlib.Core.Bool.{Bool, true, false, not, ◌&&◌}
use mathlib.Core.List.{List, [], ◌∷◌}
use lib.ListN.{length, get_or}
use lib.Dec.{T, eqb}
use mir.Facts.{T_not, not_T, and_yes, eqb_yes, yes_eqb}
use Rattle.bits.specs.ChoiceLaws.{T_true, pick_yes, pick_no}
use Rattle.bits.specs.Lists.{every}
use Rattle.sheet.specs.Fields.{Field}
use Rattle.sheet.specs.Grammar.{front, rest}
use Rattle.check_fields.specs.Fields.{FieldsAt}
use Rattle.check_fields.proofs.Laws.{field_there, its_size, fields_behind}
use Rattle.check_shape.specs.Shape.{starts, begins, Starts, Begins, right_size, all_sized, PassedAt}
use Rattle.check_shape.specs.declared.Kind.{Kind}

-- ---- what a call tells that answers a test

pub told : {r b : Bool} → r ≡ true → r ≡ b → T b
told e f = subst T (sym e ∙ f) tt

pub denied : {r b : Bool} → r ≡ false → r ≡ b → T (not b)
denied e f = subst (λ (x : Bool). T (not x)) (sym e ∙ f) tt

-- ---- the first field

-- a field with tag t, what stands behind it, and the number that its two bytes state
pub record First (t : ℕ) (s : List ℕ) (p : ℕ) (fs : List Field) : Type 0 where
  pub field : Field
  pub others : List Field
  pub is : fs ≡ field ∷ others
  pub tag : field.tag ≡ t
  pub size : get_or s (p + 1) 0 * 256 + get_or s (p + 1 + 1) 0 ≡ length field.value
  pub there : p + (3 + length field.value) ≤ length s
  pub behind : FieldsAt s (p + (3 + length field.value)) others

first : (t : ℕ) {s : List ℕ} {p : ℕ} {fs : List Field} → FieldsAt s p fs → T (starts t fs) → First t s p fs
first t {fs = []} h b = absurd b
first t {fs = f ∷ fs} h b =
    record { field = f; others = fs; is = refl; tag = eqb_yes b; size = its_size h; there = field_there h; behind = fields_behind h }

-- where a call has found one
pub found : (t : ℕ) {s : List ℕ} {p : ℕ} {fs : List Field} {r : Bool} → Starts t s p r → r ≡ true → FieldsAt s p fs → First t s p fs
found t {fs = fs} S e h = first t h (told e (S.is fs h))

module _ {t : ℕ} {s : List ℕ} {p : ℕ} {fs : List Field} (F : First t s p fs) where
  pub size_tells : (n x : ℕ) → T (starts t fs) → x ≡ get_or s (p + 1) 0 * 256 + get_or s (p + 1 + 1) 0 → eqb x n ≡ begins t n fs
  size_tells n x b e =
      let f : Field = F.field in
      let z : begins t n fs ≡ (eqb f.tag t && eqb (length f.value) n) = ap (begins t n) F.is in
      let y : eqb f.tag t ≡ true = T_true (eqb f.tag t) (subst (λ (a : List Field). T (starts t a)) F.is b) in
      ap (λ (k : ℕ). eqb k n) (e ∙ F.size) ∙ ap (λ (a : Bool). a && eqb (length f.value) n) (sym y) ∙ sym z

-- a field with tag t and n bytes
pub record Begun (t n : ℕ) (s : List ℕ) (p : ℕ) (fs : List Field) : Type 0 where
  pub field : Field
  pub others : List Field
  pub is : fs ≡ field ∷ others
  pub tag : field.tag ≡ t
  pub size : length field.value ≡ n
  pub behind : FieldsAt s (p + (3 + n)) others

begun : (t n : ℕ) {s : List ℕ} {p : ℕ} {fs : List Field} → FieldsAt s p fs → T (begins t n fs) → Begun t n s p fs
begun t n {fs = []} h b = absurd b
begun t n {s} {p} {fs = f ∷ fs} h b =
    let (a, e) = and_yes (eqb f.tag t) (eqb (length f.value) n) b in
    record {
      field = f;
      others = fs;
      is = refl;
      tag = eqb_yes a;
      size = eqb_yes e;
      behind = subst (λ (k : ℕ). FieldsAt s (p + (3 + k)) fs) (eqb_yes e) (fields_behind h);
    }

pub begun_there : (t n : ℕ) {s : List ℕ} {p : ℕ} {fs : List Field} {r : Bool} → Begins t n s p r → r ≡ true → FieldsAt s p fs → Begun t n s p fs
begun_there t n {fs = fs} S e h = begun t n h (told e (S.is fs h))

-- ---- fields of a kind: n of them are passed, of those that fs starts with, and next is the byte behind them

pub record Going (k : Kind) (s : List ℕ) (fs : List Field) (n next : ℕ) : Type 0 where
  pub left : List Field
  pub stand : FieldsAt s next left
  pub count : n + length (front k.tag left) ≡ length (front k.tag fs)
  pub others : rest k.tag left ≡ rest k.tag fs
  pub right : all_sized k left ≡ all_sized k fs

pub going_first : (k : Kind) {s : List ℕ} {p : ℕ} {fs : List Field} → FieldsAt s p fs → Going k s fs 0 p
going_first k {fs = fs} h = record { left = fs; stand = h; count = omega arith; others = refl; right = refl }

module _ {k : Kind} {s : List ℕ} {fs : List Field} {n next : ℕ} (g : Going k s fs n next) where
  -- the next field has another tag, or there is none
  pub going_all : T (not (starts k.tag g.left)) → PassedAt k s fs n next
  going_all h =
      let (a, b) = none g.left h in
      record {
        count = omega (arith, g.count, ap length a);
        behind = subst (λ (x : List Field). FieldsAt s next x) (sym b ∙ g.others) g.stand;
        right = subst T (sym (ap (every (λ v. right_size k (length v))) a) ∙ g.right) tt;
      }
    where
      none : (gs : List Field) → T (not (starts k.tag gs)) → (front k.tag gs ≡ []) × (rest k.tag gs ≡ gs)
      none [] u = (refl, refl)
      none (f ∷ gs) u = (pick_no (eqb f.tag k.tag) _ _ u, pick_no (eqb f.tag k.tag) _ _ u)

  -- the next field is one of the kind
  module _ (F : First k.tag s next g.left) where
    abbrev size : ℕ
    size = length F.field.value

    front_is : front k.tag g.left ≡ F.field.value ∷ front k.tag F.others
    front_is = ap (front k.tag) F.is ∙ pick_yes (eqb F.field.tag k.tag) _ _ (yes_eqb F.tag)

    rest_is : rest k.tag g.left ≡ rest k.tag F.others
    rest_is = ap (rest k.tag) F.is ∙ pick_yes (eqb F.field.tag k.tag) _ _ (yes_eqb F.tag)

    sizes_are : all_sized k g.left ≡ (right_size k size && all_sized k F.others)
    sizes_are = ap (every (λ v. right_size k (length v))) front_is

    pub going_on : {x : ℕ} → x ≡ get_or s (next + 1) 0 * 256 + get_or s (next + 1 + 1) 0 → T (right_size k x) → Going k s fs (n + 1) (next + (3 + x))
    going_on {x} e u =
        let z : x ≡ size = e ∙ F.size in
        let t : T (right_size k size) = subst (λ (y : ℕ). T (right_size k y)) z u in
        record {
          left = F.others;
          stand = subst (λ (y : ℕ). FieldsAt s (next + (3 + y)) F.others) (sym z) F.behind;
          count = omega (arith, g.count, ap length front_is);
          others = sym rest_is ∙ g.others;
          right = sym (ap (λ (b : Bool). b && all_sized k F.others) (T_true (right_size k size) t)) ∙ sym sizes_are ∙ g.right;
        }

    pub going_wrong : {x : ℕ} → x ≡ get_or s (next + 1) 0 * 256 + get_or s (next + 1 + 1) 0 → T (not (right_size k x)) → T (not (all_sized k fs))
    going_wrong e u =
        not_T (all_sized k fs) λ t.
        T_not (right_size k size) (and_yes (right_size k size) (all_sized k F.others) (subst T (sym g.right ∙ sizes_are) t)).0
        (subst (λ (y : ℕ). T (not (right_size k y))) (e ∙ F.size) u)
