-- How long the values of a sheet are, in bytes.
use mathlib.Core.Path.{◌≡◌, ◌∙◌}
use Prim.Native.Nat.{ℕ, ◌+◌, ◌*◌}
use native.Mathlib.Omega.{arith}
use mathlib.Core.Bool.{Bool}
use mathlib.Core.List.{List, [], ◌∷◌}
use lib.ListN.{length, length-append, length-replicate}
use Rattle.bits.specs.BitsLaws.{length_bits}
use Rattle.bits.specs.Bytes.{in_bytes}
use Rattle.bits.specs.BytesLaws.{length_in}
use Rattle.bits.specs.Codec.{Codec}
use Rattle.bits.specs.CodecLaws.{enc_all, field}
use Rattle.outcome.specs.Refusals.{bad_value}
use Rattle.format.specs.Line.{Line}
use Rattle.format.specs.Segments.{Segment, length_bytes}
use Rattle.format.specs.declared.Widths.{Widths}
use Rattle.format.specs.declared.Header.{Header}
use Rattle.format.specs.declared.ViewHeader.{ViewHeader}
use Rattle.sheet.specs.Values.{header_value, view_head_value, code_value, line_value, width_value, list_value, segment_value}

-- values of w bits each
pub length_all : {A : Type 0} (c : Codec Bool A) (w : ℕ) → ((a : A) → length (c.enc a) ≡ w) → (xs : List A) → length (enc_all c xs) ≡ w * length xs
length_all c w h [] = omega arith
length_all c w h (x ∷ xs) = length-append (c.enc x) (enc_all c xs) ∙ omega (arith, h x, length_all c w h xs)

pub length_header : (h : Header) → length (in_bytes (header_value.enc h)) ≡ 9
unfolding header_value
length_header h = length_in (header_value.enc h) ∙ simp (length-append, length_bits, length-replicate)

pub length_view_head : (earlier : ℕ → ℕ) (h : ViewHeader) → length (in_bytes ((view_head_value earlier).enc h)) ≡ 8
unfolding view_head_value
length_view_head earlier h = length_in ((view_head_value earlier).enc h) ∙ simp (length-append, length_bits, length-replicate)

pub length_line : (w : Widths) (l : Line) → length (in_bytes ((line_value w).enc l)) ≡ 12 + length l.codes
unfolding line_value
length_line w l =
    let z : length (enc_all (code_value w.k) l.codes) ≡ 8 * length l.codes = length_all (code_value w.k) 8 (λ n. length_bits 8 _) l.codes in
    length_in ((line_value w).enc l) ∙ simp (length-append, length_bits) (omega arith)

pub length_width : (w : ℕ) → length (in_bytes (width_value.enc w)) ≡ 1
unfolding width_value
length_width w = length_in (width_value.enc w) ∙ simp (length-append, length_bits, length-replicate)

pub length_list : (w l : ℕ) (ns : List ℕ) → length (in_bytes ((list_value w l).enc ns)) ≡ 2 * length ns
unfolding list_value
length_list w l ns =
    let z : length (enc_all (field bad_value 16) ns) ≡ 16 * length ns = length_all (field bad_value 16) 16 (length_bits 16) ns in
    length_in ((list_value w l).enc ns) ∙ omega arith

pub length_segment : (g : Segment) → length (in_bytes (segment_value.enc g)) ≡ 2 + length g.payload
unfolding segment_value
length_segment g = length_in (segment_value.enc g) ∙ simp (length-append, length_bits, length_bytes) (omega arith)
