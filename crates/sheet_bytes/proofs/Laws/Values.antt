-- The values of a sheet's fields, byte by byte. Where a value is right, its numbers fit their bytes; then what its block writes is
-- what Bytes has behind the field's start.
use mathlib.Core.Path.{◌≡◌}
use Prim.Native.Nat.{ℕ}
use mathlib.Core.List.{List, [], ◌∷◌, ◌++◌, map}
use Rattle.bits.specs.Bytes.{in_bytes}
use Rattle.bits.specs.CodecLaws.{field}
use Rattle.outcome.specs.Refusals.{bad_value}
use Rattle.format.specs.Line.{Line}
use Rattle.format.specs.Segments.{Segment}
use Rattle.format.specs.declared.Widths.{Widths}
use Rattle.format.specs.declared.End.{End}
use Rattle.format.specs.declared.Header.{Header}
use Rattle.format.specs.declared.ViewHeader.{ViewHeader}
use Rattle.sheet_codes.specs.Code.{sign_extended}
use Rattle.sheet.specs.Values.{header_value, view_head_value, end_value, EndValue, code_value, line_value, width_value, list_value, segment_value}
use Rattle.put_bytes.specs.HighFirst.{two, joined}
use Rattle.find_parts.specs.Stored.{head_bytes}
use Rattle.find_parts.proofs.Laws.Written.{scale_spells, head_spells}
use Rattle.sheet_bytes.specs.Bytes.{end_bytes, header_bytes}
use Rattle.find_parts.proofs.Laws.InBytes.{Spells, in_spelled, ◌⊕◌, spells_filled, spells_byte, spells_two, spells_all, spells_map, spells_bytes}

pub header_bytes_lem : (h : Header) → header_value.Fits h → in_bytes (header_value.enc h) ≡ header_bytes h
unfolding header_value
header_bytes_lem h f = in_spelled (spells_filled (spells_two f.device ⊕ scale_spells bad_value h.scale f.scale))

pub head_bytes_lem : (earlier : ℕ → ℕ) (h : ViewHeader) → (view_head_value earlier).Fits h → in_bytes ((view_head_value earlier).enc h) ≡ head_bytes h
unfolding view_head_value
head_bytes_lem earlier h f = in_spelled (spells_filled (head_spells bad_value earlier h f))

module _ (w : Widths) where
  end_spells : (p : End) → EndValue w p → Spells (end_bytes p) ((end_value w).enc p)
  end_spells p f = spells_byte f.kind.0 ⊕ spells_byte f.direction.0 ⊕ spells_two f.x.0 ⊕ spells_two f.y.0

  pub line_bytes_lem : (l : Line) → (line_value w).Fits l → in_bytes ((line_value w).enc l) ≡ end_bytes l.start ++ (end_bytes l.finish ++ map (sign_extended w.k) l.codes)
  unfolding line_value
  line_bytes_lem l f =
      in_spelled ((end_spells l.start f.start ⊕ end_spells l.finish f.finish)
      ⊕ spells_map (code_value w.k) (sign_extended w.k) (λ n h. spells_byte h.1) l.codes f.codes)

pub width_bytes_lem : (w : ℕ) → width_value.Fits w → in_bytes (width_value.enc w) ≡ w ∷ []
unfolding width_value
width_bytes_lem w f = in_spelled (spells_filled (spells_byte f.0))

pub list_bytes_lem : (w l : ℕ) (ns : List ℕ) → (list_value w l).Fits ns → in_bytes ((list_value w l).enc ns) ≡ joined two ns
unfolding list_value
list_bytes_lem w l ns f = in_spelled (spells_all (field bad_value 16) two (λ n h. spells_two h) ns f.0)

pub segment_bytes_lem : (g : Segment) → segment_value.Fits g → in_bytes (segment_value.enc g) ≡ two g.kind ++ g.payload
unfolding segment_value
segment_bytes_lem g f = in_spelled (spells_two f.kind ⊕ spells_bytes bad_value g.payload f.payload)
