-- The sheet: its 01 and the views behind it apart, where they stand, and the record put together from what is told of them. The
-- record's bytes are its header's 24 and those of its views.
use mathlib.Core.Path.{◌≡◌, refl, sym, ap, ◌∙◌, subst}
use Prim.Native.Nat.{ℕ, ◌+◌, ◌≤◌, ◌<◌}
use native.Mathlib.Omega.{arith}
use mathlib.Core.List.{List, [], ◌∷◌}
use lib.ListN.{length}
use lib.Dec.{T, eqb}
use mir.Facts.{and_yes, eqb_yes}
use Rattle.bits.specs.Choice.{within}
use Rattle.bits.specs.ChoiceLaws.{within_high}
use Rattle.bits.specs.Bytes.{bits_of}
use Rattle.bits.specs.BytesLaws.{length_bits_of}
use Rattle.bits.specs.Codec.{got, refused}
use Rattle.bits.proofs.Laws.Parts.{part}
use Rattle.outcome.specs.Refusals.{bad_value}
use Rattle.format.specs.Record.{Record, Narrow}
use Rattle.format.specs.declared.Header.{Header}
use Rattle.format.proofs.Laws.Size.{views_length}
use Rattle.format.proofs.Laws.Record.{narrow}
use Rattle.sheet.specs.Fields.{Field, fields}
use Rattle.sheet.specs.Grammar.{sheet_in, grammar}
use Rattle.sheet.specs.Values.{header_value}
use Rattle.sheet.specs.Sheet.{record_from}
use Rattle.check_fields.specs.Fields.{FieldsAt}
use Rattle.check_fields.proofs.Laws.{field_there, its_value, fields_behind}
use Rattle.check_shape.proofs.Laws.Views.{views_right, views, grammar_is, grammar_begins}
use Rattle.check_value.specs.Worth.{Wrong}
use Rattle.check_values.specs.Sheet.{ValuesThere, RecordRight, RecordWrong}
use Rattle.check_values.specs.View.{ViewWrong}
use Rattle.check_values.proofs.Laws.Views.{raws, ViewsThere, Going, going_wrong, going_all}

-- the 01, and the fields behind it
pub record SheetParts (s : List ℕ) (fs : List Field) : Type 0 where
  pub head : List ℕ
  pub others : List Field
  pub sheet : sheet_in fs ≡ record { head = head; views = raws others }
  pub long : length (part s 3 9) ≡ 9
  pub there : 12 ≤ length s
  pub holds : part s 3 9 ≡ head
  pub views : ViewsThere s others

pub sheet_parts : {s : List ℕ} (fs : List Field) → FieldsAt s 0 fs → T (grammar fs) → SheetParts s fs
sheet_parts [] h t = absurd (grammar_begins [] t)
sheet_parts {s} (f ∷ fs) h t =
    let b = grammar_begins (f ∷ fs) t in
    let (n, v) = and_yes (within 1 255 (views fs)) (views_right fs) (subst T (grammar_is f fs b) t) in
    let nine : length f.value ≡ 9 = eqb_yes (and_yes (eqb f.tag 1) (eqb (length f.value) 9) b).1 in
    let x : 0 + (3 + length f.value) ≡ 12 = omega arith in
    let e : part s 3 9 ≡ f.value = ap (part s 3) (sym nine) ∙ its_value h in
    record {
      head = f.value;
      others = fs;
      sheet = refl;
      long = ap length e ∙ nine;
      there = omega (arith, field_there h);
      holds = e;
      views = record { stand = subst (λ (k : ℕ). FieldsAt s k fs) x (fields_behind h); right = v; few = within_high 1 255 (views fs) n };
    }

-- the widths of a header that is read
pub widths_narrow : (v : List ℕ) (h : Header) → header_value.dec (bits_of v) ≡ got h [] → Narrow h.scale.widths
unfolding header_value
widths_narrow v h e = narrow (header_value.back (bits_of v) h (omega (arith, length_bits_of v)) e).0

module _ {s : List ℕ} {fs : List Field} (D : SheetParts s fs) where
  pub head_wrong : Wrong header_value (part s 3 9) → RecordWrong fs
  unfolding record_from
  head_wrong r =
      let e : header_value.dec (bits_of D.head) ≡ refused bad_value r.left = ap (λ (x : List ℕ). header_value.dec (bits_of x)) (sym D.holds) ∙ r.refuses in
      record { left = r.left; refuses = ap record_from D.sheet ∙ rw e }

  module _ {h : Header} (H : header_value.dec (bits_of (part s 3 9)) ≡ got h []) {seen : List ℕ} {p n z : ℕ} (g : Going h.scale.widths s seen p n z D.others) where
    head_reads : header_value.dec (bits_of D.head) ≡ got h []
    head_reads = ap (λ (x : List ℕ). header_value.dec (bits_of x)) (sym D.holds) ∙ H

    pub view_wrong : p < length s → ViewWrong h.scale.widths g.before g.left → RecordWrong fs
    unfolding record_from
    view_wrong l u = record { left = u.left; refuses = ap record_from D.sheet ∙ rw (head_reads, going_wrong g l u) }

    pub record_right : length s ≤ p → RecordRight fs n z
    unfolding record_from
    record_right l =
        let a = going_all g l in
        let r : Record = record { head = h; views = g.done } in
        record {
          value = r;
          reads = ap record_from D.sheet ∙ rw (head_reads, a.reads);
          count = g.many;
          all = omega (arith, views_length r, a.all);
        }

-- the fields that are read are those that stand there
pub same_fields : {s : List ℕ} (F : ValuesThere s) (fs : List Field) → fields.dec (bits_of s) ≡ got fs [] → F.value ≡ fs
same_fields F fs e = let z : got F.value [] ≡ got fs [] = sym F.reads ∙ e in cc
