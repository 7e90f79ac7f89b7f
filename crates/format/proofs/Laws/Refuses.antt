-- A record is refused only by document 01's numbers 1 to 12, and at a place within it, which for 1 is 0. The kit's laws give this of
-- each format from its parts; scale and head_fields, which the sheet reads too, have it for whatever numbers they are given, and an end
-- for its one number.
use mathlib.Core.Path.{◌≡◌}
use Prim.Native.Nat.{ℕ, ◌-◌, ◌*◌, ◌≤◌}
use native.Mathlib.Omega.{arith}
use native.Mathlib.Nat.{le_refl, sub_self}
use mathlib.Core.List.{List}
use lib.ListN.{length}
use lib.Dec.{T, le→leb}
use Rattle.bits.specs.Choice.{within}
use Rattle.bits.specs.ChoiceLaws.{T_true, within_low, within_high, within_yes}
use Rattle.bits.specs.Bytes.{bits_of}
use Rattle.bits.specs.BytesLaws.{length_bits_of}
use Rattle.bits.specs.Codec.{refused}
use Rattle.bits.proofs.Laws.Refuses.{by, AtMost, Refuses, refused_by, refusal_map, pick_refusal, next_refuses, used_refuses, refusing}
use Rattle.outcome.specs.Refusals.{bad_size, bad_line, too_many_lines, bad_index, bytes_over}
use Rattle.outcome.specs.Placed.{Placed}
use Rattle.format.specs.Limits.{least_bytes, most_bytes}
use Rattle.format.specs.Line.{end, line, skeleton}
use Rattle.format.specs.Index.{neighbours, index, index_block}
use Rattle.format.specs.Segments.{segment, segments}
use Rattle.format.specs.View.{head_fields, view_header, view}
use Rattle.format.specs.Record.{scale, header, views, record_of, read}
use Rattle.format.specs.declared.Widths.{Widths}

abbrev Listed : ℕ → Type 0
Listed e = T (within 2 12 e)

-- ---- the blocks of a view

pub end_refuses : (P : ℕ → Type 0) (w : Widths) → P bad_line → Refuses P (end w).dec
unfolding end
end_refuses P w p = search refusing depth 12

line_refuses : (P : ℕ → Type 0) (w : Widths) → P bad_line → Refuses P (line w).dec
unfolding line
line_refuses P w p = search (refusing, end_refuses) depth 12

pub skeleton_refuses : (P : ℕ → Type 0) (w : Widths) → P bad_line → P too_many_lines → Refuses P (skeleton w).dec
unfolding skeleton
skeleton_refuses P w p q = search (refusing, line_refuses)

neighbours_refuses : (P : ℕ → Type 0) (w l : ℕ) → P bad_index → Refuses P (neighbours w l).dec
neighbours_refuses P w l p = search refusing depth 12

index_refuses : (P : ℕ → Type 0) (n : ℕ) → P bad_index → Refuses P (index n).dec
unfolding index
index_refuses P n p = search (refusing, neighbours_refuses)

pub index_block_refuses : (P : ℕ → Type 0) (n : ℕ) → P bad_index → Refuses P (index_block n).dec
unfolding index_block
index_block_refuses P n p = search (refusing, index_refuses)

segment_refuses : Refuses Listed segment.dec
unfolding segment
segment_refuses = search refusing depth 12

segments_refuses : Refuses Listed segments.dec
unfolding segments
segments_refuses = search (refusing, segment_refuses)

-- ---- a view

pub head_fields_refuses : (P : ℕ → Type 0) (e : ℕ) (earlier : ℕ → ℕ) → P e → Refuses P (head_fields e earlier).dec
head_fields_refuses P e earlier p = search refusing depth 12

view_header_refuses : (earlier : ℕ → ℕ) → Refuses Listed (view_header earlier).dec
unfolding view_header
view_header_refuses earlier = search (refusing, head_fields_refuses)

view_refuses : (w : Widths) (seen : List ℕ) → Refuses Listed (view w seen).dec
unfolding view
view_refuses w seen = search (refusing, view_header_refuses, skeleton_refuses, index_block_refuses, segments_refuses) depth 12

-- ---- the record

pub scale_refuses : (P : ℕ → Type 0) (e : ℕ) → P e → Refuses P (scale e).dec
scale_refuses P e p = search refusing depth 12

header_refuses : (n : ℕ) → Refuses Listed (header n).dec
unfolding header
header_refuses n = search (refusing, scale_refuses) depth 12

views_refuses : (w : Widths) (m : ℕ) → Refuses Listed (views w m).dec
unfolding views
views_refuses w m = search (refusing, view_refuses)

record_refuses : (n : ℕ) → Refuses Listed (record_of n).dec
unfolding record_of
record_refuses n = search (refusing, header_refuses, views_refuses)

-- ---- reading, in bytes

-- what is said of a refusal of bytes that have n bits
abbrev InRecord : ℕ → ℕ → ℕ → Type 0
InRecord n e left = T (within 1 12 e) × (left ≤ n) × Placed n e (n - left)

-- 1 leaves all
size_in : (n : ℕ) → InRecord n bad_size n
size_in n = (tt, le_refl n, rw (sub_self n) tt)

field_in : (n e left : ℕ) → AtMost Listed n e left → InRecord n e left
field_in n e left h =
    let low = within_low 2 12 e h.0 in
    (within_yes 1 12 e (omega arith) (within_high 2 12 e h.0), h.1, rw (T_true (within 2 12 e) h.0) (le→leb (n - left) n (omega arith)))

pub read_refuses : (bytes : List ℕ) (e left : ℕ) → read bytes ≡ refused e left
    → T (within 1 12 e) × (left ≤ 8 * length bytes) × Placed (8 * length bytes) e (8 * length bytes - left)
unfolding read
read_refuses bytes e left p =
    let n : ℕ = length bytes in
    let h = (next_refuses (record_of n) (record_refuses n) (λ r. used_refuses bytes_over r tt)).at (bits_of bytes) in
    refused_by (pick_refusal (within least_bytes most_bytes n) (refusal_map (field_in (8 * n)) (rw length_bits_of at h)) (by (size_in (8 * n)))) p
