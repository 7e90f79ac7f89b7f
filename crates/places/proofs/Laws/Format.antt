-- What a refusal of a record goes by. The kit's laws give this of each format from its parts; the header's widths say how far behind
-- a line's first bit its count may stand.
use Prim.Native.Nat.{ℕ, ◌+◌, ◌-◌, ◌*◌, ◌≤◌}
use native.Mathlib.Omega.{arith}
use mathlib.Core.List.{List, []}
use lib.Dec.{leb}
use Rattle.bits.specs.ChoiceLaws.{within_high}
use Rattle.bits.specs.BitsLaws.{length_bits}
use Rattle.bits.specs.Codec.{judged_dec}
use Rattle.bits.specs.CodecLaws.{field, then, along, counted, counted_matches, times, only, ranged}
use Rattle.bits.proofs.Laws.Refuses.{refusing}
use Rattle.bits.proofs.Laws.Full.{field_full, times_full}
use Rattle.outcome.specs.Refusals.{bad_header, bad_view, bad_line, bad_index, bad_segment}
use Rattle.format.specs.Parts.{FitsLine, make_line, parts_of_line, up, head_fault}
use Rattle.format.specs.PartsLaws.{line_matches}
use Rattle.format.specs.Line.{end, end_bits, line, skeleton}
use Rattle.format.specs.Index.{neighbours, index, index_block}
use Rattle.format.specs.Segments.{measured, segment, segments}
use Rattle.format.specs.View.{view_header, view}
use Rattle.format.specs.Record.{scale, header, tell_seen, views, record_of}
use Rattle.format.specs.declared.Widths.{Widths}
use Rattle.format.proofs.Laws.Size.{end_full}
use Rattle.places.specs.Reach.{reach}
use Rattle.places.proofs.Laws.Settles.{Settles, then_settles, along_settles, via_settles}
use Rattle.places.proofs.Laws.Blocks.{settling}
use Rattle.places.proofs.Laws.Shaped.{Shaped, full_shaped, head_shaped, tail_shaped, via_shaped, whole_settles, judged_settles}
use Rattle.places.proofs.Laws.Head.{four, four_full, head_seen}

-- ---- lines

-- a count of codes, then that many
codes_shaped : (k : ℕ) → Shaped (counted (field bad_line 8) (field bad_line k)) 8
codes_shaped k =
    via_shaped (then (field bad_line 8) (times (field bad_line k))) _ _ _ (counted_matches (field bad_line 8) (field bad_line k)) 8
    (head_shaped (field bad_line 8) (times (field bad_line k)) 8 0 (λ n _. length_bits 8 n) λ n.
    full_shaped (times (field bad_line k) n) (n * k) (times_full (field bad_line k) k n (field_full bad_line k)))

-- start and count are within reach
line_settles : (w : Widths) → w.b ≤ 8 → w.c ≤ 16 → Settles (line w).dec
unfolding line end reach
line_settles w b c =
    whole_settles _ bad_line (end_bits w + 8) (omega arith) (search refusing depth 12)
    (via_shaped _ make_line parts_of_line (FitsLine w) (line_matches w) (end_bits w + 8)
    (head_shaped (end w) _ (end_bits w) 8 (end_full w).size λ _.
    tail_shaped (counted (field bad_line 8) (field bad_line w.k)) _ 8 (end_bits w) (codes_shaped w.k) λ _. end_full w))

skeleton_settles : (w : Widths) → w.b ≤ 8 → w.c ≤ 16 → Settles (skeleton w).dec
unfolding skeleton reach
skeleton_settles w b c = search (settling, line_settles)

-- ---- the index

neighbours_settles : (w l : ℕ) → w ≤ 16 → Settles (neighbours w l).dec
unfolding reach
neighbours_settles w l h = search settling depth 12

index_settles : (n : ℕ) → Settles (index n).dec
unfolding index reach
index_settles n =
    via_settles _ _ (then_settles (ranged bad_index 8 1 16) (λ w. along (neighbours w) up n 0) (search settling) λ w h.
    along_settles (neighbours w) up n 0 λ l. neighbours_settles w l (within_high 1 16 w h.1))

index_block_settles : (n : ℕ) → Settles (index_block n).dec
unfolding index_block reach
index_block_settles n = search (settling, index_settles)

-- ---- segments

-- the length is within reach
measured_settles : Settles measured.dec
unfolding reach
measured_settles =
    whole_settles _ bad_segment 16 (omega arith) (search refusing depth 12)
    (head_shaped (only (field bad_segment 16) bad_segment (leb 4)) _ 16 0 (λ n _. length_bits 16 n) λ n.
    full_shaped (times (field bad_segment 8) (n - 4)) ((n - 4) * 8) (times_full (field bad_segment 8) 8 (n - 4) (field_full bad_segment 8)))

segment_settles : Settles segment.dec
unfolding segment
segment_settles = search (settling, measured_settles) depth 12

segments_settles : Settles segments.dec
unfolding segments
segments_settles = search (settling, segment_settles)

-- ---- a view

four_settles : (earlier : ℕ → ℕ) → Settles (judged_dec (four bad_view) bad_view (head_fault earlier))
four_settles earlier = judged_settles (four bad_view) bad_view (head_fault earlier) 32 (four_full bad_view) (head_seen earlier) (search settling depth 12)

view_header_settles : (earlier : ℕ → ℕ) → Settles (view_header earlier).dec
unfolding view_header
view_header_settles earlier = search (settling, four_settles) depth 12

view_settles : (w : Widths) (seen : List ℕ) → w.b ≤ 8 → w.c ≤ 16 → Settles (view w seen).dec
unfolding view
view_settles w seen b c =
    search (settling, view_header_settles, skeleton_settles, index_block_settles, segments_settles) depth 12

-- ---- the record

scale_settles : Settles (scale bad_header).dec
unfolding reach
scale_settles = search settling depth 12

header_settles : (n : ℕ) → Settles (header n).dec
unfolding header reach
header_settles n = search (settling, scale_settles) depth 12

views_settles : (w : Widths) (m : ℕ) → w.b ≤ 8 → w.c ≤ 16 → Settles (views w m).dec
unfolding views
views_settles w m b c = along_settles (view w) tell_seen m [] λ seen. view_settles w seen b c

-- a header that fits has the widths that a line counts on
pub record_settles : (n : ℕ) → Settles (record_of n).dec
unfolding record_of
record_settles n =
    via_settles _ _ (then_settles (header n) (λ t. views t.0.scale.widths t.1) (header_settles n) λ t h.
    let s = h.1.scale in
    views_settles t.0.scale.widths t.1 (within_high 4 8 t.0.scale.widths.b s.b.1) (within_high 1 16 t.0.scale.widths.c s.c.1))
