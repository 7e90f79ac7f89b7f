-- The bytes of a record's parts, as they stand in its bytes, are those that each part spells by itself. So equal parts of two
-- records have equal bytes, wherever they stand.
use mathlib.Core.Path.{◌≡◌, sym, ap, ap₂, ◌∙◌}
use Prim.Native.Nat.{ℕ, suc, ◌+◌, ◌*◌, ◌<◌}
use native.Mathlib.Omega.{arith}
use mathlib.Core.List.{List, [], ◌∷◌, ◌++◌, append_assoc}
use lib.ListN.{length, take, drop, length-append}
use lib.Seq.{slice, take-suc, split_at}
use Rattle.bits.specs.Lists.{All}
use Rattle.bits.specs.ListsLaws.{total_append}
use Rattle.bits.specs.Bytes.{in_bytes}
use Rattle.put_bytes.specs.HighFirst.{two, joined}
use Rattle.put_bytes.proofs.Laws.{joined_snoc, joined_append}
use Rattle.format.specs.Line.{skeleton}
use Rattle.format.specs.Index.{index_block}
use Rattle.format.specs.Segments.{Segment, FitsSegment, segment, segment_length, segments}
use Rattle.format.specs.View.{View}
use Rattle.format.specs.Record.{Record, size, write, Allowed}
use Rattle.format.specs.Places.{no_view_there, view_at, no_segment_there, segment_at, bits_before, bits_ahead, segment_bits}
use Rattle.format.specs.declared.Widths.{Widths}
use Rattle.format.specs.declared.Header.{Header}
use Rattle.find_parts.specs.Stored.{head_bytes, scale_bytes, sized_out, blocks_out, view_out, record_out}
use Rattle.find_parts.proofs.Laws.Blocks.{block_long}
use Rattle.find_parts.proofs.Laws.Written.{view_blocks, views_long, written}
use Rattle.find_parts.specs.Finds.{segment_stored}
use Rattle.find_parts.proofs.Laws.Segments.{segments_bytes}
use Rattle.rewrite.proofs.Laws.Record.{all_fit}
use Rattle.rewrite.proofs.Laws.Bytes.{segments_long}
use Rattle.find_parts.proofs.Laws.Apart.{slice_at, ahead, behind, ahead_long, apart}
use Rattle.orders.specs.Bytes.{view_start, extended_start, view_part, view_header_part, extended_part, segment_start, segment_part}

regroup : (before head lines index extended behind : List ℕ)
    → before ++ ((head ++ (lines ++ (index ++ extended))) ++ behind) ≡ ((before ++ head) ++ (lines ++ index)) ++ (extended ++ behind)
regroup before head lines index extended behind = simp append_assoc

about_it : (front n earlier it later rest : List ℕ) → front ++ ((n ++ (earlier ++ (it ++ later))) ++ rest) ≡ ((front ++ n) ++ earlier) ++ (it ++ (later ++ rest))
about_it front n earlier it later rest = simp append_assoc

-- ---- the header

module _ (r : Record) (a : Allowed r) where
  pub front_is : slice 0 8 (write r) ≡ 0x46 ∷ 0x53 ∷ 0x4B ∷ 0x00 ∷ 0x30 ∷ 0x31 ∷ 0x30 ∷ 0x00 ∷ []
  unfolding record_out
  front_is = ap (slice 0 8) (written r a)

  pub fields_are : slice 12 24 (write r) ≡ two r.head.device ++ (length r.views ∷ (scale_bytes r.head.scale ++ (0x00 ∷ 0x00 ∷ [])))
  unfolding record_out
  fields_are = ap (slice 12 24) (written r a)

-- ---- view i

module _ (r : Record) (i : ℕ) where
  abbrev w : Widths
  w = r.head.scale.widths

  abbrev v : View
  v = view_at r i

  -- what stands before it, and behind it
  abbrev before : List ℕ
  before = ahead r i (size r)

  abbrev rest : List ℕ
  rest = behind r i

  -- where it starts
  start_is : length before ≡ view_start r i
  start_is = omega (arith, ahead_long r i (size r))

  module _ (a : Allowed r) (l : i < length r.views) where
    around_it : write r ≡ before ++ (view_out w v ++ rest)
    around_it = written r a ∙ apart r i l

    -- where the next one starts
    end_is : length before + length (view_out w v) ≡ view_start r (suc i)
    end_is =
        let vs : List View = take i r.views in
        let e : joined (view_out w) (take (suc i) r.views) ≡ joined (view_out w) vs ++ view_out w v =
        ap (joined (view_out w)) (take-suc r.views i no_view_there l) ∙ joined_snoc (view_out w) vs v in
        omega (arith, start_is, views_long w vs, views_long w (take (suc i) r.views), ap length e, length-append (joined (view_out w) vs) (view_out w v))

    pub view_is : view_part r i (write r) ≡ view_out w v
    view_is = ap (slice (view_start r i) (view_start r (suc i))) around_it ∙ slice_at before (view_out w v) rest _ _ start_is end_is

    pub header_is_lem : view_header_part r i (write r) ≡ head_bytes v.head
    header_is_lem =
        let e : write r ≡ before ++ (head_bytes v.head ++ (blocks_out w v ++ rest)) =
        around_it ∙ ap (λ (s : List ℕ). before ++ s) (append_assoc (head_bytes v.head) (blocks_out w v) rest) in
        ap (slice (view_start r i) (view_start r i + 8)) e ∙ slice_at before (head_bytes v.head) (blocks_out w v ++ rest) (view_start r i) (view_start r i + 8) start_is (omega (arith, start_is))

    pub extended_is : extended_part r i (write r) ≡ sized_out segments v.segments
    extended_is =
        let front : List ℕ = (before ++ head_bytes v.head) ++ (sized_out (skeleton w) v.lines ++ sized_out (index_block (length v.lines)) v.index) in
        let x : List ℕ = sized_out segments v.segments in
        let e : write r ≡ front ++ (x ++ rest) = around_it ∙ regroup before (head_bytes v.head) (sized_out (skeleton w) v.lines) (sized_out (index_block (length v.lines)) v.index) x rest in
        let n : length front ≡ length before + 12 + length (in_bytes ((skeleton w).enc v.lines)) + length (in_bytes ((index_block (length v.lines)).enc v.index)) = simp length-append (omega arith) in
        let m : length x ≡ 2 + length (in_bytes (segments.enc v.segments)) = omega arith in
        let f : length front ≡ extended_start r i =
        omega (arith, n, start_is, views_long w (take i r.views), block_long (skeleton w) v.lines, block_long (index_block (length v.lines)) v.index) in
        let t : length front + length x ≡ view_start r (suc i) = omega (arith, n, m, end_is, view_blocks w v) in
        ap (slice (extended_start r i) (view_start r (suc i))) e ∙ slice_at front x rest _ _ f t

    -- ---- a segment

    -- what stands before its segments: as much as the extended part starts behind, and the extended length
    abbrev front : List ℕ
    front = (before ++ head_bytes v.head) ++ (sized_out (skeleton w) v.lines ++ sized_out (index_block (length v.lines)) v.index)

    abbrev extended_long : ℕ
    extended_long = length (in_bytes (segments.enc v.segments))

    front_long : 8 * length front + 16 ≡ bits_before r i + bits_ahead w v
    front_long =
        let n : length front ≡ length before + 12 + length (in_bytes ((skeleton w).enc v.lines)) + length (in_bytes ((index_block (length v.lines)).enc v.index)) = simp length-append (omega arith) in
        omega (arith, n, start_is, ahead_long r i (size r), views_long w (take i r.views), block_long (skeleton w) v.lines, block_long (index_block (length v.lines)) v.index)

    module _ (place : ℕ) (k : place < length v.segments) where
      abbrev g : Segment
      g = segment_at v place

      abbrev earlier : List ℕ
      earlier = joined segment_stored (take place v.segments)

      abbrev later : List ℕ
      later = joined segment_stored (drop (suc place) v.segments)

      segments_apart : All FitsSegment v.segments → in_bytes (segments.enc v.segments) ≡ earlier ++ (segment_stored g ++ later)
      segments_apart f =
          segments_bytes v.segments f ∙ ap (joined segment_stored) (split_at v.segments place no_segment_there k)
          ∙ joined_append segment_stored (take place v.segments) (g ∷ drop (suc place) v.segments)

      pub segment_part_lem : segment_part r i place (write r) ≡ segment_stored g
      segment_part_lem =
          let f : All FitsSegment v.segments = all_fit i r l a in
          let lead : List ℕ = (front ++ two extended_long) ++ earlier in
          let e : write r ≡ lead ++ (segment_stored g ++ (later ++ rest)) =
          around_it ∙ regroup before (head_bytes v.head) (sized_out (skeleton w) v.lines) (sized_out (index_block (length v.lines)) v.index) (sized_out segments v.segments) rest
          ∙ ap (λ (s : List ℕ). front ++ ((two extended_long ++ s) ++ rest)) (segments_apart f) ∙ about_it front (two extended_long) earlier (segment_stored g) later rest in
          let n : length lead ≡ length front + 2 + length earlier = simp length-append (omega arith) in
          let from : length lead ≡ segment_start r i place = omega (arith, n, front_long, segments_long (take place v.segments)) in
          let m : segment_bits (take (suc place) v.segments) ≡ segment_bits (take place v.segments) + length (segment.enc g) =
          ap segment_bits (take-suc v.segments place no_segment_there k) ∙ total_append (λ x. length (segment.enc x)) (take place v.segments) (g ∷ []) ∙ omega arith in
          let to : length lead + length (segment_stored g) ≡ segment_start r i (suc place) =
          let z : length (segment_stored g) ≡ 4 + length g.payload = omega arith in
          omega (arith, z, n, front_long, segments_long (take place v.segments), m, segment_length g) in
          ap (slice (segment_start r i place) (segment_start r i (suc place))) e ∙ slice_at lead (segment_stored g) (later ++ rest) _ _ from to

-- ---- two records with the same header and as many views

module _ (r x : Record) (a : Allowed r) (b : Allowed x) (h : x.head ≡ r.head) (c : length x.views ≡ length r.views) where
  pub same_front : slice 0 8 (write x) ≡ slice 0 8 (write r)
  same_front = front_is x b ∙ sym (front_is r a)

  pub same_fields : slice 12 24 (write x) ≡ slice 12 24 (write r)
  same_fields = fields_are x b ∙ rw (h, c) (sym (fields_are r a))

  module _ (i : ℕ) (l : i < length r.views) where
    there : i < length x.views
    there = omega (arith, c)

    pub same_view : view_at x i ≡ view_at r i → view_part x i (write x) ≡ view_part r i (write r)
    same_view e = view_is x i b there ∙ ap₂ (λ (k : Header) (u : View). view_out k.scale.widths u) h e ∙ sym (view_is r i a l)

    pub same_header : (view_at x i).head ≡ (view_at r i).head → view_header_part x i (write x) ≡ view_header_part r i (write r)
    same_header e = header_is_lem x i b there ∙ ap head_bytes e ∙ sym (header_is_lem r i a l)

    pub same_segment : (place : ℕ) → place < length (view_at r i).segments → place < length (view_at x i).segments
        → segment_at (view_at x i) place ≡ segment_at (view_at r i) place → segment_part x i place (write x) ≡ segment_part r i place (write r)
    same_segment place k m e = segment_part_lem x i b there place m ∙ ap segment_stored e ∙ sym (segment_part_lem r i a l place k)

    pub same_extended : (view_at x i).segments ≡ (view_at r i).segments → extended_part x i (write x) ≡ extended_part r i (write r)
    same_extended e = extended_is x i b there ∙ ap (sized_out segments) e ∙ sym (extended_is r i a l)
