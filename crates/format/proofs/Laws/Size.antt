-- How long what is written is: an end always as many bits, whole bytes whatever the length field says, and a header of 24.
use mathlib.Core.Path.{◌≡◌, refl}
use Prim.Native.Nat.{ℕ, ◌+◌, ◌*◌, ◌%◌}
use native.Mathlib.Omega.{arith}
use mathlib.Core.List.{List, [], ◌∷◌}
use lib.ListN.{length, length-append}
use Rattle.bits.specs.Lists.{All}
use Rattle.bits.specs.BitsLaws.{length_bits}
use Rattle.bits.specs.Bytes.{Byte}
use Rattle.bits.specs.BytesLaws.{length_bytes_of, bytes_are}
use Rattle.bits.specs.CodecLaws.{field, enc_along}
use Rattle.bits.proofs.Laws.Full.{Full, field_full, then_full, via_full}
use Rattle.outcome.specs.Refusals.{bad_line}
use Rattle.format.specs.Parts.{end_numbers, make_end, numbers_of_end}
use Rattle.format.specs.Line.{end, end_bits, skeleton}
use Rattle.format.specs.Index.{index_block}
use Rattle.format.specs.Segments.{segments}
use Rattle.format.specs.View.{View, view, view_header}
use Rattle.format.specs.Record.{Record, tell_seen, record_of, header, views, size, write}
use Rattle.format.specs.declared.Widths.{Widths}

-- every run of so many bits is an end
pub end_full : (w : Widths) → Full (end w) (end_bits w)
unfolding end
end_full w =
    via_full (end_numbers (field bad_line 2) (field bad_line w.b) (field bad_line w.c)) make_end numbers_of_end _ _ (end_bits w)
    (then_full (field bad_line 2) _ 2 _ (field_full bad_line 2) λ _.
    then_full (field bad_line w.b) _ w.b _ (field_full bad_line w.b) λ _.
    then_full (field bad_line w.c) _ w.c _ (field_full bad_line w.c) λ _. field_full bad_line w.c)

-- a view: 14 bytes of header and length fields, and its blocks
pub view_length : (w : Widths) (seen : List ℕ) (v : View)
    → length ((view w seen).enc v) ≡ 112 + length ((skeleton w).enc v.lines) + length ((index_block (length v.lines)).enc v.index) + length (segments.enc v.segments)
unfolding view view_header
view_length w seen v = simp (length-append, length_bits) (omega arith)

pub view_bytes_lem : (w : Widths) (seen : List ℕ) (v : View) → length ((view w seen).enc v) % 8 ≡ 0
view_bytes_lem w seen v =
    omega (arith, view_length w seen v, (skeleton w).bytes v.lines, (index_block (length v.lines)).bytes v.index, segments.bytes v.segments)

views_bytes : (w : Widths) (seen : List ℕ) (vs : List View) → length (enc_along (view w) tell_seen seen vs) % 8 ≡ 0
views_bytes w seen [] = refl
views_bytes w seen (v ∷ vs) = simp length-append (omega (arith, view_bytes_lem w seen v, views_bytes w (tell_seen seen v) vs))

-- the header's 24 bytes, and the views
pub record_length : (n : ℕ) (r : Record) → length ((record_of n).enc r) ≡ 192 + length (enc_along (view r.head.scale.widths) tell_seen [] r.views)
unfolding record_of header views
record_length n r = simp (length-append, length_bits) (omega arith)

pub size_is : (n : ℕ) (r : Record) → length ((record_of n).enc r) ≡ 8 * size r
unfolding size
size_is n r = omega (arith, record_length n r, record_length 0 r, views_bytes r.head.scale.widths [] r.views)

pub views_length : (r : Record) → 192 + length (enc_along (view r.head.scale.widths) tell_seen [] r.views) ≡ 8 * size r
views_length r = omega (arith, record_length 0 r, size_is 0 r)

pub write_long : (r : Record) → length (write r) ≡ size r
unfolding write
write_long r = length_bytes_of (size r) _

pub write_bytes : (r : Record) → All Byte (write r)
unfolding write
write_bytes r = bytes_are (size r) _ (size_is (size r) r)
