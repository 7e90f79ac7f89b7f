-- The lengths that a kind of fields allows are those of the grammar. A field states its length in two bytes, so that 65,535 is no
-- limit.
use mathlib.Core.Path.{◌≡◌, refl, ap₂}
use Prim.Native.Nat.{ℕ, ◌%◌, ◌≤◌, ◌<◌}
use native.Mathlib.Omega.{arith}
use mathlib.Core.Bool.{Bool, true, false, ◌&&◌}
use mathlib.Core.List.{List, [], ◌∷◌}
use lib.ListN.{length}
use lib.Dec.{T, leb, eqb}
use mir.Facts.{and_yes, yes_and, eqb_yes, yes_eqb, leb_yes, yes_leb}
use Rattle.bits.specs.Choice.{within}
use Rattle.bits.specs.ChoiceLaws.{eqb_true, eqb_false, eq_split, within_low, within_high, within_yes}
use Rattle.bits.specs.Lists.{All, every}
use Rattle.sheet.specs.Fields.{Field, FitsField}
use Rattle.sheet.specs.Grammar.{front}
use Rattle.check_shape.specs.Shape.{right_size, all_sized}
use Rattle.check_shape.specs.declared.Kind.{Kind}

-- tests that agree
pub same : (a b : Bool) → (T a → T b) → (T b → T a) → a ≡ b
same true true f g = refl
same true false f g = absurd (f tt)
same false true f g = absurd (g tt)
same false false f g = refl

every_same : {A : Type 0} (P : A → Type 0) (t u : A → Bool) (xs : List A) → All P xs → ((x : A) → P x → t x ≡ u x) → every t xs ≡ every u xs
every_same P t u [] h e = refl
every_same P t u (x ∷ xs) h e = ap₂ (λ (a b : Bool). a && b) (e x h.0) (every_same P t u xs h.1 e)

-- ---- one length

sized_facts : (k : Kind) (n : ℕ) → T (right_size k n) → (k.least ≤ n) × (n ≤ k.most) × (n % k.step ≡ 0)
sized_facts k n t =
    let (a, b) = and_yes (within k.least k.most n) (eqb (n % k.step) 0) t in
    (within_low k.least k.most n a, within_high k.least k.most n a, eqb_yes b)

facts_sized : (k : Kind) (n : ℕ) → k.least ≤ n → n ≤ k.most → n % k.step ≡ 0 → T (right_size k n)
facts_sized k n a b e = yes_and (within k.least k.most n) (eqb (n % k.step) 0) (within_yes k.least k.most n a b) (yes_eqb e)

-- ---- those of the fields

abbrev Short : List ℕ → Type 0
Short v = length v < 65536

front_short : (t : ℕ) (fs : List Field) → All FitsField fs → All Short (front t fs)
front_short t [] h = tt
front_short t (f ∷ fs) h =
    eq_split f.tag t
    (λ e. rw (eqb_true f.tag t e) (h.0.length, front_short t fs h.1))
    (λ n. rw (eqb_false f.tag t n) tt)

-- the kinds, as code gives them
abbrev pub line_kind : Kind
line_kind = record { tag = 3; least = 12; most = 267; step = 1 }

abbrev pub list_kind : Kind
list_kind = record { tag = 5; least = 0; most = 65535; step = 2 }

abbrev pub segment_kind : Kind
segment_kind = record { tag = 6; least = 2; most = 65535; step = 1 }

module _ (fs : List Field) (fits : All FitsField fs) where
  pub lines_sized : all_sized line_kind fs ≡ every (λ l. within 12 267 (length l)) (front 3 fs)
  lines_sized =
      every_same Short _ _ (front 3 fs) (front_short 3 fs fits) λ v h.
      same (right_size line_kind (length v)) (within 12 267 (length v))
      (λ t. let (a, b, e) = sized_facts line_kind (length v) t in within_yes 12 267 (length v) a b)
      (λ t. facts_sized line_kind (length v) (within_low 12 267 (length v) t) (within_high 12 267 (length v) t) (omega arith))

  pub lists_sized : all_sized list_kind fs ≡ every (λ l. eqb (length l % 2) 0) (front 5 fs)
  lists_sized =
      every_same Short _ _ (front 5 fs) (front_short 5 fs fits) λ v h.
      same (right_size list_kind (length v)) (eqb (length v % 2) 0)
      (λ t. let (a, b, e) = sized_facts list_kind (length v) t in yes_eqb e)
      (λ t. facts_sized list_kind (length v) (omega arith) (omega arith) (eqb_yes t))

  pub segments_sized : all_sized segment_kind fs ≡ every (λ g. leb 2 (length g)) (front 6 fs)
  segments_sized =
      every_same Short _ _ (front 6 fs) (front_short 6 fs fits) λ v h.
      same (right_size segment_kind (length v)) (leb 2 (length v))
      (λ t. let (a, b, e) = sized_facts segment_kind (length v) t in yes_leb a)
      (λ t. facts_sized segment_kind (length v) (leb_yes t) (omega arith) (omega arith))
