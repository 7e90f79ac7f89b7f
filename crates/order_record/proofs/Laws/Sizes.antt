-- How long the new record is: what code measures of the three blocks and of the rest is the size of the record that the order leaves. Words
-- about pairs leave the skeleton as it is, so that the size is told by the new lists, and is at most what bounds for these say.
use mathlib.Core.Path.{◌≡◌, refl, ap, ◌∙◌}
use Prim.Native.Nat.{ℕ, ◌+◌, ◌-◌, ◌*◌, ◌/◌, ◌≤◌}
use native.Mathlib.Omega.{arith}
use native.Mathlib.Nat.{mul-le-mul}
use mathlib.Core.Option.{Option, some}
use mathlib.Core.List.{List, []}
use lib.ListN.{length}
use Rattle.bits.specs.Lists.{All, total}
use Rattle.bits.specs.Bytes.{Byte, in_bytes}
use Rattle.format.specs.Line.{Line, skeleton}
use Rattle.format.specs.Index.{Index}
use Rattle.format.specs.Segments.{Segment, segments}
use Rattle.format.specs.Record.{Record, size}
use Rattle.format.specs.Places.{view_at}
use Rattle.format.specs.declared.Widths.{Widths}
use Rattle.find_parts.specs.Stands.{BlockAt}
use Rattle.find_parts.specs.Stored.{record_out}
use Rattle.find_parts.specs.Site.{SiteOf}
use Rattle.find_parts.proofs.Laws.Blocks.{cut, block_bits, block_long}
use Rattle.put_record.proofs.Laws.{is_stored}
use Rattle.orders.specs.Least.{least_width}
use Rattle.order_removal.proofs.Laws.Kept.{kept_all}
use Rattle.order_lists.specs.Index.{left}
use Rattle.order_lists.specs.declared.index.Size.{Size}
use Rattle.order_lists.proofs.Laws.Index.{new_long}
use Rattle.order_lines.specs.Lines.{kept_block}
use Rattle.order_extended.specs.Extended.{kept_extended}
use Rattle.order_record.specs.Blocks.{new_index_block, SkeletonMeasured, IndexMeasured, ExtendedMeasured}
use Rattle.order_record.specs.Rebuilt.{new_record, Placed, Measured}
use Rattle.find_parts.specs.declared.site.Site.{Site}
use Rattle.order_record.proofs.Laws.Skeleton.{skeleton_fewer}
use Rattle.order_record.proofs.Laws.Extended.{same_segments, all_fit, extended_fewer}
use Rattle.order_record.proofs.Laws.Site.{old_skeleton, old_extended}
use Rattle.order_record.proofs.Laws.Splice.{new_size}

module _ {s : List ℕ} {x : Site} {words removal : List ℕ} (t : Placed s x words removal) (f : All Byte s) {n : ℕ} (A : SkeletonMeasured x.widths (cut s x.skeleton.from x.skeleton.to) removal n) where
  -- a skeleton becomes no longer
  pub skeleton_small : n ≤ 65535
  skeleton_small = omega (arith, skeleton_fewer (old_skeleton t f) A)

  -- nor does an extended block
  pub extended_small_lem : {k : ℕ} → ExtendedMeasured (cut s x.extended.from x.extended.to) x.lines removal k → k ≤ 65535
  extended_small_lem C = extended_fewer (old_extended t f) C

  pub measured : {z : Size} {k : ℕ} → IndexMeasured (cut s x.index.from x.index.to) x.lines words removal z
      → ExtendedMeasured (cut s x.extended.from x.extended.to) x.lines removal k
      → Measured s x words removal (record { skeleton = n; width = z.width; index = z.bytes; extended = k; bytes = x.skeleton.from + n + 2 + z.bytes + 2 + k + (length s - x.extended.to) })
  measured {z} {k} B C =
      record {
        is = λ r i e S.
            let a = rw S.widths at (A.is (view_at r i).lines S.lines.value) in
            let b = B.is (view_at r i).index S.index.value in
            let g = rw S.count at (C.is (view_at r i).segments S.segments.value) in
            record {
              skeleton = a;
              index = b;
              extended = g;
              bytes = omega (arith, a, b.bytes, g, new_size S (is_stored f e) removal words);
            };
      }

-- ---- after words about pairs

module _ {r : Record} {s : List ℕ} {i : ℕ} {x : Site} (S : SiteOf r s i x) (e : s ≡ record_out r) where
  skeleton_long : x.skeleton.from + length (kept_block r.head.scale.widths [] (view_at r i).lines) ≡ x.skeleton.to
  skeleton_long =
      let w : Widths = r.head.scale.widths in
      let ls : List Line = (view_at r i).lines in
      let L : BlockAt (skeleton w) s x.skeleton.from x.skeleton.to ls = rw S.widths at S.lines in
      let k = ap (λ (xs : List Line). length (in_bytes ((skeleton w).enc xs))) (kept_all 0 ls) in
      omega (arith, k, L.from, block_bits L, block_long (skeleton w) ls)

  -- and so do its segments
  extended_long : x.extended.from + length (kept_extended (length (view_at r i).lines) [] (view_at r i).segments) ≡ x.extended.to
  extended_long =
      let gs : List Segment = (view_at r i).segments in
      let k = ap (λ (xs : List Segment). length (in_bytes (segments.enc xs))) (same_segments (length (view_at r i).lines) [] gs (all_fit _ S.segments.value) refl) in
      omega (arith, k, S.segments.from, block_bits S.segments, block_long segments gs)

  -- ls are the lists that the words leave
  module _ (words : List ℕ) {j : Index} (z : (view_at r i).index ≡ some j) {ls : List (List ℕ)} (q : left [] words j ≡ ls) where
    pub words_size : size (new_record [] words i r) ≡ x.index.from + (8 + (length ls + total length ls) * least_width ls + 7) / 8 + (length s - x.index.to)
    words_size =
        let y : length (new_index_block [] words (view_at r i).index) ≡ (8 + (length ls + total length ls) * least_width ls + 7) / 8 =
        ap (λ (o : Option Index). length (new_index_block [] words o)) z ∙ new_long (left [] words j)
        ∙ ap (λ (ks : List (List ℕ)). (8 + (length ks + total length ks) * least_width ks + 7) / 8) q in
        omega (arith, new_size S e [] words, skeleton_long, extended_long, S.next, S.last, S.segments.within, y)

    -- so many numbers at most, of so many bits at most
    pub words_most : {numbers width : ℕ} → length ls + total length ls ≤ numbers → least_width ls ≤ width
        → size (new_record [] words i r) ≤ x.index.from + (8 + numbers * width + 7) / 8 + (length s - x.index.to)
    words_most a b = omega (arith, words_size, mul-le-mul a b)
