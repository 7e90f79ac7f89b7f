-- The field that starts at a byte of the sheet, as code finds it: its length by its two bytes, its value as a part of the sheet.
use mathlib.Core.Path.{◌≡◌, refl, sym, ap, ◌∙◌, subst}
use Prim.Native.Nat.{ℕ, ◌+◌, ◌-◌, ◌*◌, ◌≤◌, ◌<◌}
use native.Mathlib.Omega.{arith}
use mathlib.Core.Bool.{Bool, true}
use mathlib.Core.List.{List, [], ◌∷◌}
use lib.ListN.{length, get_or}
use lib.Dec.{T}
use mir.Facts.{eqb_yes}
use Rattle.bits.proofs.Laws.Parts.{part}
use Rattle.sheet.specs.Fields.{Field}
use Rattle.check_fields.specs.Fields.{FieldsAt}
use Rattle.check_fields.proofs.Laws.{field_there, its_size, its_value, fields_behind}
use Rattle.check_shape.specs.Shape.{starts, Starts}
use Rattle.check_shape.proofs.Laws.Stand.{told}

-- the m bytes of a value, as code cuts them out behind the three at byte p
pub record Held (s : List ℕ) (p m : ℕ) : Type 0 where
  pub there : p + 3 + m ≤ length s
  pub long : length (part s (p + 3) (p + 3 + m - (p + 3))) ≡ m

-- a field with tag t starts at byte p, and its value has m bytes
pub record Next (t : ℕ) (s : List ℕ) (p m : ℕ) (fs : List Field) : Type 0 where
  pub field : Field
  pub others : List Field
  pub is : fs ≡ field ∷ others
  pub tag : field.tag ≡ t
  pub size : m ≡ length field.value
  pub short : m < 65536
  pub held : Held s p m
  pub holds : part s (p + 3) (p + 3 + m - (p + 3)) ≡ field.value
  pub behind : FieldsAt s (p + 3 + m) others

module _ (t : ℕ) {s : List ℕ} {p : ℕ} where
  first_three : {fs : List Field} → FieldsAt s p fs → T (starts t fs) → p + 3 ≤ length s
  first_three {fs = []} h b = absurd b
  first_three {fs = f ∷ fs} h b = omega (arith, field_there h)

  next_field : {fs : List Field} → FieldsAt s p fs → T (starts t fs) → {m : ℕ} → m ≡ get_or s (p + 1) 0 * 256 + get_or s (p + 1 + 1) 0 → Next t s p m fs
  next_field {fs = []} h b e = absurd b
  next_field {fs = f ∷ fs} h b {m} e =
      let z : m ≡ length f.value = e ∙ its_size h in
      let y : p + 3 + m - (p + 3) ≡ length f.value = omega arith in
      let x : p + (3 + length f.value) ≡ p + 3 + m = omega arith in
      let v : part s (p + 3) (p + 3 + m - (p + 3)) ≡ f.value = ap (part s (p + 3)) y ∙ its_value h in
      record {
        field = f;
        others = fs;
        is = refl;
        tag = eqb_yes b;
        size = z;
        short = omega (arith, h.fits.0.length);
        held = record { there = omega (arith, field_there h); long = ap length v ∙ sym z };
        holds = v;
        behind = subst (λ (k : ℕ). FieldsAt s k fs) x (fields_behind h);
      }

  -- where a call has found one: three bytes of it are there, and so is the whole, once its length is read
  module _ {r : Bool} (S : Starts t s p r) (e : r ≡ true) {fs : List Field} (h : FieldsAt s p fs) where
    pub three : p + 3 ≤ length s
    three = first_three h (told e (S.is fs h))

    pub next : {m : ℕ} → m ≡ get_or s (p + 1) 0 * 256 + get_or s (p + 1 + 1) 0 → Next t s p m fs
    next y = next_field h (told e (S.is fs h)) y
