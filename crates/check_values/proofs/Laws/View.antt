-- A view: its 02, its lines, its index and its segments apart, where they stand, and the view put together from what is told of them.
-- The first of them that is wrong makes the view wrong.
use mathlib.Core.Path.{◌≡◌, refl, sym, ap, ◌∙◌, subst}
use Prim.Native.Nat.{ℕ, ◌+◌, ◌-◌, ◌/◌, ◌≤◌}
use native.Mathlib.Omega.{arith}
use mathlib.Core.List.{List, [], ◌∷◌}
use lib.ListN.{length}
use Rattle.bits.specs.Bytes.{bits_of}
use Rattle.bits.specs.Codec.{got, refused}
use Rattle.bits.proofs.Laws.Parts.{part}
use Rattle.outcome.specs.Refusals.{bad_value}
use Rattle.format.specs.View.{View, occurs}
use Rattle.format.specs.declared.Widths.{Widths}
use Rattle.format.specs.declared.ViewHeader.{ViewHeader}
use Rattle.format.proofs.Laws.Size.{view_length}
use Rattle.sheet.specs.Fields.{Field}
use Rattle.sheet.specs.Grammar.{front, rest, index_rest, view_in}
use Rattle.sheet.specs.Values.{view_head_value, line_value, segment_value}
use Rattle.sheet.specs.Sheet.{alike, view_from}
use Rattle.check_fields.specs.Fields.{FieldsAt}
use Rattle.check_fields.proofs.Laws.{field_there, its_value, fields_behind}
use Rattle.check_shape.specs.Shape.{view_rest}
use Rattle.check_shape.proofs.Laws.Views.{view_tests}
use Rattle.check_blocks.specs.Run.{line_bits, segment_takes, LineFields, Segments, RunRight, RunWrong}
use Rattle.check_blocks.specs.Index.{IndexToCheck, IndexRight, IndexWrong}
use Rattle.check_values.specs.View.{ViewToCheck, raw_in, ViewRight, ViewWrong}
use Rattle.check_blocks.proofs.Laws.Blocks.{skeleton_bytes, segments_bytes}

-- an 02 at byte p, and the fields behind it
pub record ViewParts (s : List ℕ) (p : ℕ) (fs : List Field) : Type 0 where
  pub head : List ℕ
  pub others : List Field
  pub view : raw_in fs ≡ view_in (head, others)
  pub behind : view_rest fs ≡ rest 6 (index_rest (rest 3 others))
  pub long : length (part s (p + 3) (p + 11 - (p + 3))) ≡ 8
  pub there : p + 11 ≤ length s
  pub holds : part s (p + 3) (p + 11 - (p + 3)) ≡ head
  pub lines : LineFields s (p + 11) others
  pub index : {i : ℕ} → FieldsAt s i (rest 3 others) → IndexToCheck s i (rest 3 others)
  pub segments : {g : ℕ} → FieldsAt s g (index_rest (rest 3 others)) → Segments s g (index_rest (rest 3 others))

pub view_parts_lem : {s : List ℕ} {p : ℕ} (fs : List Field) → ViewToCheck s p fs → ViewParts s p fs
view_parts_lem [] h = absurd h.right
view_parts_lem {s} {p} (f ∷ fs) h =
    let t = view_tests f fs h.right in
    let eight : length f.value ≡ 8 = t.head in
    let y : p + 11 - (p + 3) ≡ length f.value = omega arith in
    let x : p + (3 + length f.value) ≡ p + 11 = omega arith in
    let v : part s (p + 3) (p + 11 - (p + 3)) ≡ f.value = ap (part s (p + 3)) y ∙ its_value h.stand in
    record {
      head = f.value;
      others = fs;
      view = refl;
      behind = refl;
      long = ap length v ∙ eight;
      there = omega (arith, field_there h.stand);
      holds = v;
      lines = record { run = record { stand = subst (λ (k : ℕ). FieldsAt s k fs) x (fields_behind h.stand); right = t.lines }; few = t.most };
      index = λ k. record { stand = k; lines = length (front 3 fs); few = t.most; right = t.index };
      segments = λ k. record { stand = k; right = t.segments };
    }

module _ (w : Widths) (ps : List ℕ) {s : List ℕ} {p : ℕ} {fs : List Field} (D : ViewParts s p fs) where
  abbrev v : List ℕ
  v = part s (p + 3) (p + 11 - (p + 3))

  abbrev others : List Field
  others = D.others

  pub head_wrong : {l : ℕ} → (view_head_value (λ q. occurs q ps)).dec (bits_of v) ≡ refused bad_value l → ViewWrong w ps fs
  unfolding view_from
  head_wrong {l} r =
      let e : (view_head_value (λ q. occurs q ps)).dec (bits_of D.head) ≡ refused bad_value l = ap (λ (x : List ℕ). (view_head_value (λ q. occurs q ps)).dec (bits_of x)) (sym D.holds) ∙ r in
      record { left = l; refuses = ap (view_from w ps) D.view ∙ rw e }

  module _ {h : ViewHeader} (H : (view_head_value (λ q. occurs q ps)).dec (bits_of v) ≡ got h []) where
    head_reads : (view_head_value (λ q. occurs q ps)).dec (bits_of D.head) ≡ got h []
    head_reads = ap (λ (x : List ℕ). (view_head_value (λ q. occurs q ps)).dec (bits_of x)) (sym D.holds) ∙ H

    pub lines_wrong : RunWrong 3 (λ _. line_value w) alike tt others → ViewWrong w ps fs
    unfolding view_from
    lines_wrong u = record { left = u.left; refuses = ap (view_from w ps) D.view ∙ rw (head_reads, u.refuses) }

    module _ {i z : ℕ} (L : RunRight 3 (λ _. line_value w) alike tt others (line_bits w) s i z) where
      pub index_wrong : IndexWrong (rest 3 others) → ViewWrong w ps fs
      unfolding view_from
      index_wrong u = record { left = u.left; refuses = ap (view_from w ps) D.view ∙ rw (head_reads, L.reads, u.refuses) }

      pub view_right_lem : {g y e x : ℕ} → IndexRight s (rest 3 others) g y → RunRight 6 (λ _. segment_value) alike tt (index_rest (rest 3 others)) segment_takes s e x
          → ViewRight w ps fs s (record { end = e; position = h.position; bytes = 10 + (z + 7) / 8 + 2 + y + 2 + x })
      unfolding view_from
      view_right_lem {e = e} {x = x} I G =
          let a : View = record { head = h; lines = L.value; index = I.value; segments = G.value } in
          record {
            behind = subst (λ (k : List Field). FieldsAt s e k) (sym D.behind) G.behind;
            value = a;
            reads = ap (view_from w ps) D.view ∙ rw (head_reads, L.reads, I.reads, G.reads);
            position = refl;
            all = omega (arith, view_length w ps a, skeleton_bytes w L.value z L.all, I.all (length L.value), segments_bytes G.value, G.all);
          }
