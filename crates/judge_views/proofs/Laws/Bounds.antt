-- How many bytes of the sheet the parts of a view can take at most, so that no sum of them wraps.
use mathlib.Core.Path.{◌≡◌, ap}
use Prim.Native.Nat.{ℕ, suc, ◌+◌, ◌*◌, ◌^◌, ◌≤◌}
use native.Mathlib.Omega.{arith}
use mathlib.Core.Option.{Option, none, some}
use mathlib.Core.List.{List, [], ◌∷◌}
use lib.ListN.{length, drop, length-append, length-drop}
use lib.Pow.{pow_mono}
use Rattle.bits.specs.Lists.{Along, total}
use Rattle.bits.specs.Bytes.{bits_of}
use Rattle.bits.specs.BytesLaws.{length_bits_of}
use Rattle.bits.specs.CodecLaws.{enc_all}
use Rattle.bits.specs.SizedLaws.{prefixed}
use Rattle.bits.specs.Reads.{found, Reads}
use Rattle.bits.proofs.Laws.Reads.{unkept}
use Rattle.outcome.specs.Refusals.{past}
use Rattle.format.specs.Index.{Index, FitsList, up, index, index_block}
use Rattle.format.specs.Segments.{Segment, segment, segment_length, segments}
use Rattle.format.specs.SheetSize.{list_size, index_size, segment_size}
use Rattle.judge_blocks.specs.Answers.{index_at_dec, segments_at_dec}

-- ---- the index

lists_most : (w l : ℕ) (ls : List (List ℕ)) → w ≤ 16 → Along up (FitsList w) l ls → total list_size ls ≤ 131073 * length ls
lists_most w l [] b h = omega arith
lists_most w l (ns ∷ ls) b h =
    let p : 2 ^ w ≤ 2 ^ 16 = pow_mono b in
    omega (arith, h.0.count, lists_most w (suc l) ls b h.1)

index_most : (n : ℕ) (o : Option Index) → (index_block n).Fits o → index_size o ≤ 4 + 131073 * n
unfolding index_block index
index_most n none f = omega arith
index_most n (some i) f = omega (arith, f.count, lists_most i.width 0 i.lists f.high f.lists)

pub index_small_lem : {s : List ℕ} {p c q : ℕ} (n : ℕ) → Reads (index_at_dec n) s p (found c q) → c ≤ 4 + 131073 * n
unfolding index_at_dec
index_small_lem {s} {p} {c} {q} n r = unkept index_size r go
  where
    go : (o : Option Index) → index_size o ≡ c → Reads (prefixed (index_block n) past).dec s p (found o q) → c ≤ 4 + 131073 * n
    go o e y = omega (arith, index_most n o ((prefixed (index_block n) past).back (drop p (bits_of s)) o (drop q (bits_of s)) y.is).0.1)

-- ---- the segments

segments_most : (gs : List Segment) → total segment_size gs ≤ length (enc_all segment gs)
segments_most [] = omega arith
segments_most (g ∷ gs) = simp length-append (omega (arith, segment_length g, segments_most gs))

pub segments_small : {s : List ℕ} {p c q : ℕ} → Reads segments_at_dec s p (found c q) → c ≤ 8 * length s
unfolding segments_at_dec segments
segments_small {s} {p} {c} {q} r = unkept (total segment_size) r go
  where
    go : (gs : List Segment) → total segment_size gs ≡ c → Reads (prefixed segments past).dec s p (found gs q) → c ≤ 8 * length s
    go gs e y =
        let b = ap length ((prefixed segments past).back (drop p (bits_of s)) gs (drop q (bits_of s)) y.is).1 in
        omega (arith, segments_most gs, simp (length-append, length-drop, length_bits_of) at b)
