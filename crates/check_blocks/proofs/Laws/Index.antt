-- The index of a view: its 04 and its 05s apart, where they stand, and the index put together from what is told of them. The
-- first of them that is wrong makes the index wrong.
use mathlib.Core.Path.{◌≡◌, refl, sym, ap, ◌∙◌, subst}
use Prim.Native.Nat.{ℕ, ◌+◌, ◌-◌, ◌/◌, ◌≤◌}
use native.Mathlib.Omega.{arith}
use mathlib.Core.Bool.{Bool, true, not}
use mathlib.Core.Option.{Option, none, some}
use mathlib.Core.List.{List, [], ◌∷◌}
use lib.ListN.{length}
use lib.Dec.{T, eqb}
use mir.Facts.{eqb_yes}
use Rattle.bits.specs.ChoiceLaws.{pick_yes, pick_no, within_high}
use Rattle.bits.specs.Lists.{every}
use Rattle.bits.specs.ListsLaws.{all_true_lem}
use Rattle.bits.specs.Bytes.{bits_of}
use Rattle.bits.specs.BytesLaws.{length_bits_of}
use Rattle.bits.specs.Codec.{got, refused}
use Rattle.bits.proofs.Laws.Parts.{part}
use Rattle.outcome.specs.Refusals.{bad_value}
use Rattle.format.specs.Index.{up}
use Rattle.sheet.specs.Fields.{Field}
use Rattle.sheet.specs.Grammar.{front, rest, index_in, index_rest, index_shape}
use Rattle.sheet.specs.Values.{width_value, list_value}
use Rattle.sheet.specs.Sheet.{index_from}
use Rattle.check_fields.specs.Fields.{FieldsAt}
use Rattle.check_fields.proofs.Laws.{field_there, its_value, fields_behind}
use Rattle.check_shape.specs.Shape.{starts, Starts}
use Rattle.check_shape.proofs.Laws.Stand.{told}
use Rattle.check_value.specs.Worth.{Wrong}
use Rattle.check_blocks.specs.Run.{list_long, list_bits, ListFields, RunRight, RunWrong}
use Rattle.check_blocks.specs.Index.{IndexToCheck, IndexRight, IndexWrong}
use Rattle.check_blocks.proofs.Laws.Blocks.{index_bytes_lem, no_index_bytes}

pub no_index_lem : {s : List ℕ} {p : ℕ} (fs : List Field) → FieldsAt s p fs → T (not (starts 4 fs)) → IndexRight s fs p 0
no_index_lem [] h t = record { behind = h; value = none; reads = refl; all = no_index_bytes }
no_index_lem {s} {p} (f ∷ fs) h t =
    record {
      behind = subst (λ (x : List Field). FieldsAt s p x) (sym (pick_no (eqb f.tag 4) _ _ t)) h;
      value = none;
      reads = ap index_from (pick_no (eqb f.tag 4) _ _ t);
      all = no_index_bytes;
    }

-- ---- an 04 at byte p, and the lists behind it

pub record IndexParts (s : List ℕ) (p : ℕ) (fs : List Field) : Type 0 where
  pub width : List ℕ
  pub others : List Field
  pub index : index_in fs ≡ some (width, front 5 others)
  pub behind : index_rest fs ≡ rest 5 others
  pub long : length (part s (p + 3) (p + 4 - (p + 3))) ≡ 1
  pub there : p + 4 ≤ length s
  pub holds : part s (p + 3) (p + 4 - (p + 3)) ≡ width
  pub lists : ListFields s (p + 4) others

index_parts : {s : List ℕ} {p : ℕ} (fs : List Field) → IndexToCheck s p fs → T (starts 4 fs) → IndexParts s p fs
index_parts [] h t = absurd t
index_parts {s} {p} (f ∷ fs) h t =
    let e : index_in (f ∷ fs) ≡ some (f.value, front 5 fs) = pick_yes (eqb f.tag 4) _ _ t in
    let (a, (b, (d, _))) = all_true_lem (eqb (length f.value) 1 ∷ eqb (length (front 5 fs)) h.lines ∷ every list_long (front 5 fs) ∷ [])
    (subst (λ (o : Option (List ℕ × List (List ℕ))). T (index_shape h.lines o)) e h.right) in
    let one : length f.value ≡ 1 = eqb_yes a in
    let count : length (front 5 fs) ≡ h.lines = eqb_yes b in
    let y : p + 4 - (p + 3) ≡ length f.value = omega arith in
    let x : p + (3 + length f.value) ≡ p + 4 = omega arith in
    let v : part s (p + 3) (p + 4 - (p + 3)) ≡ f.value = ap (part s (p + 3)) y ∙ its_value h.stand in
    record {
      width = f.value;
      others = fs;
      index = e;
      behind = pick_yes (eqb f.tag 4) _ _ t;
      long = ap length v ∙ one;
      there = omega (arith, field_there h.stand);
      holds = v;
      lists = record { run = record { stand = subst (λ (k : ℕ). FieldsAt s k fs) x (fields_behind h.stand); right = d }; few = omega (arith, h.few, count) };
    }

-- where a call has found it
pub index_there : {s : List ℕ} {p : ℕ} {r : Bool} → Starts 4 s p r → r ≡ true → (fs : List Field) → IndexToCheck s p fs → IndexParts s p fs
index_there S e fs h = index_parts fs h (told e (S.is fs h.stand))

-- a width that is read is at most 16
pub width_most : (v : List ℕ) (w : ℕ) → width_value.dec (bits_of v) ≡ got w [] → w ≤ 16
unfolding width_value
width_most v w e = within_high 1 16 w (width_value.back (bits_of v) w (omega (arith, length_bits_of v)) e).0.1

module _ {s : List ℕ} {p : ℕ} {fs : List Field} (I : IndexParts s p fs) where
  abbrev v : List ℕ
  v = part s (p + 3) (p + 4 - (p + 3))

  pub width_wrong : Wrong width_value v → IndexWrong fs
  width_wrong r =
      let e : width_value.dec (bits_of I.width) ≡ refused bad_value r.left = ap (λ (x : List ℕ). width_value.dec (bits_of x)) (sym I.holds) ∙ r.refuses in
      record { left = r.left; refuses = ap index_from I.index ∙ rw e }

  module _ {w : ℕ} (r : width_value.dec (bits_of v) ≡ got w []) where
    width_reads : width_value.dec (bits_of I.width) ≡ got w []
    width_reads = ap (λ (x : List ℕ). width_value.dec (bits_of x)) (sym I.holds) ∙ r

    pub lists_wrong : RunWrong 5 (list_value w) up 0 I.others → IndexWrong fs
    lists_wrong u = record { left = u.left; refuses = ap index_from I.index ∙ rw (width_reads, u.refuses) }

    pub index_right : {e z : ℕ} → RunRight 5 (list_value w) up 0 I.others (list_bits w) s e z → IndexRight s fs e ((8 + z + 7) / 8)
    index_right {e} {z} L =
        record {
          behind = subst (λ (x : List Field). FieldsAt s e x) (sym I.behind) L.behind;
          value = some (record { width = w; lists = L.value });
          reads = ap index_from I.index ∙ rw (width_reads, L.reads);
          all = λ n. index_bytes_lem n (record { width = w; lists = L.value }) z L.all;
        }
