-- How many bytes the blocks of a view take in a record, by the bits or bytes of what they hold. A skeleton and an index are filled up
-- to whole bytes; segments are whole bytes already.
use mathlib.Core.Path.{◌≡◌, refl, ap, ◌∙◌}
use Prim.Native.Nat.{ℕ, ◌+◌, ◌*◌, ◌/◌}
use native.Mathlib.Omega.{arith}
use native.Mathlib.Nat.{mul_comm}
use mathlib.Core.Option.{none, some}
use mathlib.Core.List.{List, [], ◌∷◌}
use lib.ListN.{length, length-append}
use Rattle.bits.specs.Lists.{total}
use Rattle.bits.specs.BitsLaws.{filled_long}
use Rattle.bits.specs.CodecLaws.{enc_all, enc_along}
use Rattle.format.specs.Line.{Line, line, skeleton}
use Rattle.format.specs.Index.{Index, neighbours, up, index_block}
use Rattle.format.specs.Segments.{Segment, segment, segment_length, segments}
use Rattle.format.specs.declared.Widths.{Widths}
use Rattle.find_parts.proofs.Laws.Index.{none_enc, index_long}
use Rattle.find_parts.proofs.Laws.Lists.{all_long, along_long, list_bits_lem}
use Rattle.check_blocks.specs.Run.{line_bits, list_bits, segment_takes}

-- ---- lines

pub skeleton_bytes : (w : Widths) (ls : List Line) (z : ℕ) → z ≡ total (line_bits w) ls → length ((skeleton w).enc ls) ≡ 8 * ((z + 7) / 8)
unfolding skeleton
skeleton_bytes w ls z e = filled_long (enc_all (line w) ls) ∙ ap (λ (n : ℕ). 8 * ((n + 7) / 8)) (omega (arith, all_long (line w) ls))

-- ---- lists

list_long_lem : (w l : ℕ) (ns : List ℕ) → length ((neighbours w l).enc ns) ≡ list_bits w ns
list_long_lem w l ns = list_bits_lem w l ns ∙ ap (λ (n : ℕ). w + n) (mul_comm (length ns) w)

lists_long : (w l : ℕ) (xs : List (List ℕ)) → length (enc_along (neighbours w) up l xs) ≡ total (list_bits w) xs
lists_long w = along_long (neighbours w) up (list_bits w) (list_long_lem w)

pub index_bytes_lem : (n : ℕ) (i : Index) (z : ℕ) → z ≡ total (list_bits i.width) i.lists → length ((index_block n).enc (some i)) ≡ 8 * ((8 + z + 7) / 8)
index_bytes_lem n i z e = omega (arith, index_long n i, lists_long i.width 0 i.lists)

pub no_index_bytes : (n : ℕ) → length ((index_block n).enc none) ≡ 0
no_index_bytes n = ap length (none_enc n)

-- ---- segments

segments_long : (gs : List Segment) → length (enc_all segment gs) ≡ 8 * total segment_takes gs
segments_long [] = refl
segments_long (g ∷ gs) = length-append (segment.enc g) (enc_all segment gs) ∙ omega (arith, segment_length g, segments_long gs)

pub segments_bytes : (gs : List Segment) → length (segments.enc gs) ≡ 8 * total segment_takes gs
unfolding segments
segments_bytes gs = segments_long gs
