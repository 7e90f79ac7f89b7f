-- A view: header, skeleton block, index block, extended block. "Each header, length field or block is found whole (6) before it is
-- judged."
use Rattle.std.specs.Prelude.{ℕ, suc, Bool, List, [], ◌∷◌, length, eqb}
use Rattle.std.proofs.Math.Option.{Option}
use Rattle.bits.specs.Choice.{pick}
use Rattle.bits.specs.Codec.{Codec}
use Rattle.bits.specs.CodecLaws.{field, then, via}
use Rattle.bits.specs.RefusingLaws.{room}
use Rattle.bits.specs.SizedLaws.{headed, prefixed}
use Rattle.outcome.specs.Refusals.{past, bad_view}
pub use Rattle.format.specs.Parts.{impression_ok, head_fault, FitsHead, View}
use Rattle.format.specs.Parts.{head_numbers, make_head, numbers_of_head, make_view, parts_of_view}
use Rattle.format.specs.PartsLaws.{head_matches, head_long, view_matches}
use Rattle.format.specs.Line.{Line, skeleton}
use Rattle.format.specs.Index.{Index, index_block}
use Rattle.format.specs.Segments.{Segment, segments}
use Rattle.format.specs.declared.Widths.{Widths}
use Rattle.format.specs.declared.ViewHeader.{ViewHeader}

-- the header without the skeleton's length, 8 bytes; e is the refusal of a value
abbrev pub head_fields : ℕ → (ℕ → ℕ) → Codec Bool ViewHeader
head_fields e earlier = via (head_numbers e earlier) make_head numbers_of_head (FitsHead earlier) (head_matches e earlier)

-- the header with the skeleton's length: 10 bytes
unfoldable pub view_header : (ℕ → ℕ) → Codec Bool (ViewHeader × ℕ)
view_header earlier = room (then (head_fields bad_view earlier) λ _. field past 16) past 80 (λ t h. head_long bad_view earlier t.0 t.1)

abbrev pub view_parts : Widths → (ℕ → ℕ) → Codec Bool ((ViewHeader × List Line) × (Option Index × List Segment))
view_parts w earlier =
    then (headed (view_header earlier) (skeleton w) past) λ t. then (prefixed (index_block (length t.1)) past) λ _. prefixed segments past

-- how many of the positions are p
abbrev pub occurs : ℕ → List ℕ → ℕ
occurs p [] = 0
occurs p (q ∷ qs) = pick (eqb p q) (suc (occurs p qs)) (occurs p qs)

-- a view behind others, whose positions are seen
unfoldable pub view : Widths → List ℕ → Codec Bool View
view w seen =
    via (view_parts w (λ p. occurs p seen)) make_view parts_of_view (λ v. (view_parts w (λ p. occurs p seen)).Fits (parts_of_view v))
    (view_matches (view_parts w (λ p. occurs p seen)).Fits)
