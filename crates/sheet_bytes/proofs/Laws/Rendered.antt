-- A record's sheet byte by byte is its sheet. Fields that fit lay down their starts and values, one after the other; and the
-- values of an allowed record, of each tag, are those of Bytes.
use mathlib.Core.Path.{◌≡◌, refl, ap₂, ◌∙◌}
use Prim.Native.Nat.{ℕ}
use mathlib.Core.Option
use mathlib.Core.Option.{Option, none, some}
use mathlib.Core.List.{List, [], ◌∷◌, ◌++◌, map}
use lib.ListN.{length}
use Rattle.bits.specs.Lists.{All, Along}
use Rattle.bits.specs.Bytes.{in_bytes}
use Rattle.bits.specs.Block.{Block}
use Rattle.outcome.specs.Refusals.{bad_sheet}
use Rattle.format.specs.Index.{Index, up}
use Rattle.format.specs.View.{View, occurs}
use Rattle.format.specs.Record.{Record, Allowed, tell_seen}
use Rattle.format.specs.declared.Widths.{Widths}
use Rattle.sheet.specs.Fields.{Field, FitsField, tagged, fields}
use Rattle.sheet.specs.Grammar.{one, index_fields, body_fields, views_fields, sheet_fields}
use Rattle.sheet.specs.Values.{line_value, list_value, segment_value}
use Rattle.sheet.specs.Sheet.{alike, each_enc, raw_index, raw_view, raw_views, raw_of, sheet_of}
use Rattle.sheet.proofs.Laws.Lengths.{length_header, length_view_head, length_line, length_width, length_list, length_segment}
use Rattle.sheet.proofs.Laws.Values.{RightIndex, RightView, RightValues}
use Rattle.sheet.proofs.Laws.Allowed.{record_right, record_fields}
use Rattle.put_bytes.specs.HighFirst.{start, joined}
use Rattle.put_bytes.proofs.Laws.{joined_append}
use Rattle.sheet_bytes.specs.Bytes.{line_bytes, list_bytes, index_bytes, segment_bytes, view_bytes, record_bytes}
use Rattle.find_parts.proofs.Laws.InBytes.{Spells, in_spelled, ◌⊕◌, spells_byte, spells_two, spells_all, spells_bytes}
use Rattle.sheet_bytes.proofs.Laws.Values.{header_bytes_lem, head_bytes_lem, line_bytes_lem, width_bytes_lem, list_bytes_lem, segment_bytes_lem}

both : {a b c d : List ℕ} → a ≡ b → c ≡ d → a ++ c ≡ b ++ d
both p q = ap₂ (λ (x y : List ℕ). x ++ y) p q

-- ---- fields

abbrev field_bytes : Field → List ℕ
field_bytes f = start f.tag (length f.value) ++ f.value

fields_spell : (fs : List Field) → All FitsField fs → Spells (joined field_bytes fs) (fields.enc fs)
unfolding fields tagged
fields_spell = spells_all tagged field_bytes (λ f h. spells_byte h.tag ⊕ spells_two h.length ⊕ spells_bytes bad_sheet f.value h.value)

-- a field whose value is the bytes xs, of which there are n
field_is : (t : ℕ) {n : ℕ} {v xs : List ℕ} → length v ≡ n → v ≡ xs → field_bytes (one t v) ≡ start t n ++ xs
field_is t l e = ap₂ (λ (m : ℕ) (ys : List ℕ). start t m ++ ys) l e

-- fields of one tag, each with a value of its own
module _ {A I : Type 0} (b : I → Block A) (m : I → A → I) (t : ℕ) (g : A → List ℕ)
    (is : (i : I) (x : A) → (b i).Fits x → field_bytes (one t (in_bytes ((b i).enc x))) ≡ g x) where
  each_is : (i : I) (xs : List A) → Along m (λ j x. (b j).Fits x) i xs → joined field_bytes (map (one t) (each_enc b m i xs)) ≡ joined g xs
  each_is i [] h = refl
  each_is i (x ∷ xs) h = both (is i x h.0) (each_is (m i x) xs h.1)

-- ---- a view

index_is : (o : Option Index) → RightIndex o → joined field_bytes (index_fields (Option.map raw_index o)) ≡ index_bytes o
index_is none h = refl
index_is (some i) h =
    both (field_is 4 (length_width i.width) (width_bytes_lem i.width h.0))
    (each_is (list_value i.width) up 5 list_bytes (λ l ns f. field_is 5 (length_list i.width l ns) (list_bytes_lem i.width l ns f)) 0 i.lists h.1)

module _ (w : Widths) (seen : List ℕ) (v : View) (h : RightView w seen v) where
  body_is : joined field_bytes (body_fields (raw_view w seen v)) ≡ joined (line_bytes w.k) v.lines ++ (index_bytes v.index ++ joined segment_bytes v.segments)
  unfolding raw_view
  body_is =
      joined_append field_bytes (map (one 3) (raw_view w seen v).lines) _
      ∙ both
      (each_is (λ u. line_value w) alike 3 (line_bytes w.k) (λ u l f. field_is 3 (length_line w l) (line_bytes_lem w l f)) tt v.lines h.lines)
      (joined_append field_bytes (index_fields (raw_view w seen v).index) _
      ∙ both (index_is v.index h.index)
      (each_is (λ u. segment_value) alike 6 segment_bytes (λ u g f. field_is 6 (length_segment g) (segment_bytes_lem g f)) tt v.segments h.segments))

  view_is : joined field_bytes (one 2 (raw_view w seen v).head ∷ body_fields (raw_view w seen v)) ≡ view_bytes w.k v
  unfolding raw_view
  view_is =
      both (field_is 2 (length_view_head (λ p. occurs p seen) v.head) (head_bytes_lem (λ p. occurs p seen) v.head h.head))
      body_is

views_are : (w : Widths) (seen : List ℕ) (vs : List View) → Along tell_seen (λ s v. RightView w s v) seen vs
    → joined field_bytes (views_fields (raw_views w seen vs)) ≡ joined (view_bytes w.k) vs
views_are w seen [] h = refl
views_are w seen (v ∷ vs) h =
    joined_append field_bytes (one 2 (raw_view w seen v).head ∷ body_fields (raw_view w seen v)) _
    ∙ both (view_is w seen v h.0) (views_are w (tell_seen seen v) vs h.1)

-- ---- the sheet

sheet_is : (r : Record) → RightValues r → joined field_bytes (sheet_fields (raw_of r)) ≡ record_bytes r
unfolding raw_of record_bytes
sheet_is r h =
    both (field_is 1 (length_header r.head) (header_bytes_lem r.head h.head))
    (views_are r.head.scale.widths [] r.views h.views)

pub rendered : (r : Record) → Allowed r → sheet_of r ≡ record_bytes r
unfolding sheet_of
rendered r a = in_spelled (fields_spell (sheet_fields (raw_of r)) (record_fields r a.fits)) ∙ sheet_is r (record_right r a.fits)
