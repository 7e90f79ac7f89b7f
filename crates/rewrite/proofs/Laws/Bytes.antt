-- A rewritten record's bytes: those of the old one around the payload, with three other lengths. Both records are taken apart in the
-- same way, around the segment.
use mathlib.Core.Path.{◌≡◌, refl, sym, ap, ◌∙◌, subst}
use Prim.Native.Nat.{ℕ, zero, suc, ◌+◌, ◌-◌, ◌*◌, ◌<◌}
use native.Mathlib.Omega.{arith}
use mathlib.Core.List.{List, [], ◌∷◌, ◌++◌, append_assoc}
use lib.ListN.{length, take, drop, get_or, set, length-append}
use lib.Seq.{take_at, drop_at, split_at, set_split}
use Rattle.bits.specs.Lists.{All}
use Rattle.bits.specs.Bytes.{in_bytes}
use Rattle.bits.proofs.Laws.Parts.{part}
use Rattle.put_bytes.specs.HighFirst.{two, joined}
use Rattle.put_bytes.proofs.Laws.{joined_append}
use Rattle.format.specs.Line.{skeleton}
use Rattle.format.specs.Index.{index_block}
use Rattle.format.specs.Segments.{Segment, FitsSegment, segment, segment_length, segments}
use Rattle.format.specs.View.{View}
use Rattle.format.specs.Record.{Record, size, Allowed}
use Rattle.format.specs.Places.{no_segment_there, view_at, with_view, segment_at, bits_before, bits_ahead, segment_bits, first_bit}
use Rattle.format.specs.declared.Widths.{Widths}
use Rattle.find_parts.specs.Stored.{sized_out, head_bytes, view_out, record_out}
use Rattle.find_parts.specs.Finds.{segment_stored}
use Rattle.find_parts.proofs.Laws.Apart.{ahead, behind, ahead_long, around, apart}
use Rattle.find_parts.proofs.Laws.Blocks.{block_long}
use Rattle.find_parts.proofs.Laws.Segments.{segments_bytes}
use Rattle.find_parts.proofs.Laws.Written.{view_blocks, stored_long}
use Rattle.find_parts.proofs.Laws.Lists.{all_long}
use Rattle.put_record.specs.Head.{head_of}
use Rattle.put_record.proofs.Laws.{Around, spliced}
use Rattle.rewrite.specs.Rewrite.{with_payload, rewritten}
use Rattle.rewrite.proofs.Laws.Record.{rewritten_count, rewritten_view, all_fit}

-- ---- segments around one of them

module _ (gs : List Segment) (place : ℕ) where
  abbrev pub before : List ℕ
  before = joined segment_stored (take place gs)

  abbrev pub after : List ℕ
  after = joined segment_stored (drop (suc place) gs)

  module _ (l : place < length gs) where
    stored_with : (g : Segment) → joined segment_stored (set gs place g) ≡ before ++ (segment_stored g ++ after)
    stored_with g = ap (joined segment_stored) (set_split gs place g l) ∙ joined_append segment_stored (take place gs) (g ∷ drop (suc place) gs)

    stored_old : joined segment_stored gs ≡ before ++ (segment_stored (get_or gs place no_segment_there) ++ after)
    stored_old = ap (joined segment_stored) (split_at gs place no_segment_there l) ∙ joined_append segment_stored (take place gs) (get_or gs place no_segment_there ∷ drop (suc place) gs)

-- bits of segments, and their bytes
pub segments_long : (gs : List Segment) → segment_bits gs ≡ 8 * length (joined segment_stored gs)
segments_long [] = refl
segments_long (g ∷ gs) =
    let z : length (segment_stored g) ≡ 4 + length g.payload = omega arith in
    omega (arith, z, segment_length g, segments_long gs, length-append (segment_stored g) (joined segment_stored gs))

-- with another segment
bits_with : (gs : List Segment) (place : ℕ) (g : Segment) → place < length gs
    → segment_bits (set gs place g) + 8 * length (get_or gs place no_segment_there).payload ≡ segment_bits gs + 8 * length g.payload
bits_with [] place g l = absurd (omega arith)
bits_with (x ∷ gs) zero g l = omega (arith, segment_length x, segment_length g)
bits_with (x ∷ gs) (suc place) g l = omega (arith, bits_with gs place g (omega arith))

-- bytes of an extended block
extended_long : (gs : List Segment) → 8 * length (in_bytes (segments.enc gs)) ≡ segment_bits gs
unfolding segments
extended_long gs = sym (block_long segments gs) ∙ all_long segment gs

-- ---- a view around a segment; the record's bytes behind the view are c

regroup : (head lines index n before kind size payload after c : List ℕ)
    → (head ++ (lines ++ (index ++ (n ++ (before ++ ((kind ++ (size ++ payload)) ++ after)))))) ++ c
    ≡ (head ++ (lines ++ index)) ++ ((((n ++ (before ++ kind)) ++ size) ++ payload) ++ (after ++ c))
regroup head lines index n before kind size payload after c = simp append_assoc

pub shift : (a b n x size payload c : List ℕ) → a ++ (b ++ ((((n ++ x) ++ size) ++ payload) ++ c)) ≡ ((a ++ b) ++ n) ++ (x ++ ((size ++ payload) ++ c))
shift a b n x size payload c = simp append_assoc

from_left : (head n x size payload : List ℕ) → head ++ (((n ++ x) ++ size) ++ payload) ≡ (((head ++ n) ++ x) ++ size) ++ payload
from_left head n x size payload = simp append_assoc

module _ (w : Widths) (v : View) (place : ℕ) where
  -- from the view's header to its extended length
  abbrev pub middle : List ℕ
  middle = head_bytes v.head ++ (sized_out (skeleton w) v.lines ++ sized_out (index_block (length v.lines)) v.index)

  -- from the extended length, which is n, to the end of the segment g at that place
  abbrev pub upto : ℕ → Segment → List ℕ
  upto n g = ((two n ++ (before v.segments place ++ two g.kind)) ++ two (4 + length g.payload)) ++ g.payload

  view_around : (g : Segment) (gs : List Segment) (c : List ℕ) → in_bytes (segments.enc gs) ≡ before v.segments place ++ (segment_stored g ++ after v.segments place)
      → view_out w (record { head = v.head; lines = v.lines; index = v.index; segments = gs }) ++ c
      ≡ middle ++ (upto (length (in_bytes (segments.enc gs))) g ++ (after v.segments place ++ c))
  view_around g gs c e =
      let n : ℕ = length (in_bytes (segments.enc gs)) in
      ap (λ (xs : List ℕ). (head_bytes v.head ++ (sized_out (skeleton w) v.lines ++ (sized_out (index_block (length v.lines)) v.index ++ (two n ++ xs)))) ++ c) e
      ∙ regroup (head_bytes v.head) (sized_out (skeleton w) v.lines) (sized_out (index_block (length v.lines)) v.index) (two n) (before v.segments place) (two g.kind) (two (4 + length g.payload)) g.payload (after v.segments place) c

-- ---- the record around a segment

module _ (i place : ℕ) (payload : List ℕ) (r : Record) (l : i < length r.views) (k : place < length (view_at r i).segments) where
  abbrev w : Widths
  w = r.head.scale.widths

  abbrev v : View
  v = view_at r i

  abbrev old : Segment
  old = segment_at v place

  abbrev new : Segment
  new = record { kind = old.kind; payload = payload }

  abbrev others : List Segment
  others = set v.segments place new

  -- how long the blocks and the record become
  pub extended_size : length (in_bytes (segments.enc others)) + length old.payload ≡ length (in_bytes (segments.enc v.segments)) + length payload
  extended_size = omega (arith, extended_long others, extended_long v.segments, bits_with v.segments place new k)

  pub rewritten_size : size (rewritten i place payload r) + length old.payload ≡ size r + length payload
  unfolding rewritten
  rewritten_size =
      let u : View = with_payload place payload v in
      let x : Record = with_view r i u in
      omega (
        arith,
        sym (stored_long x) ∙ ap length (around r i l u),
        sym (stored_long r) ∙ ap length (apart r i l),
        length-append (ahead r i (size x)) (view_out w u ++ behind r i),
        length-append (ahead r i (size r)) (view_out w v ++ behind r i),
        length-append (view_out w u) (behind r i),
        length-append (view_out w v) (behind r i),
        ahead_long r i (size x),
        ahead_long r i (size r),
        view_blocks w u,
        view_blocks w v,
        extended_size,
      )

  module _ (a : Allowed r) (b : Allowed (rewritten i place payload r)) where
    old_stored : in_bytes (segments.enc v.segments) ≡ before v.segments place ++ (segment_stored old ++ after v.segments place)
    old_stored = segments_bytes v.segments (all_fit i r l a) ∙ stored_old v.segments place k

    new_stored : in_bytes (segments.enc others) ≡ before v.segments place ++ (segment_stored new ++ after v.segments place)
    new_stored =
        let f : All FitsSegment others =
        subst (λ (u : View). All FitsSegment u.segments) (rewritten_view i place payload r l) (all_fit i (rewritten i place payload r) (omega (arith, rewritten_count i place payload r)) b) in
        segments_bytes others f ∙ stored_with v.segments place k new

    pub old_apart : record_out r
        ≡ ahead r i (size r) ++ (middle w v place ++ (upto w v place (length (in_bytes (segments.enc v.segments))) old ++ (after v.segments place ++ behind r i)))
    old_apart = apart r i l ∙ ap (λ (xs : List ℕ). ahead r i (size r) ++ xs) (view_around w v place old v.segments (behind r i) old_stored)

    pub new_apart : record_out (rewritten i place payload r)
        ≡ ahead r i (size (rewritten i place payload r)) ++ (middle w v place ++ (upto w v place (length (in_bytes (segments.enc others))) new ++ (after v.segments place ++ behind r i)))
    unfolding rewritten
    new_apart =
        let u : View = with_payload place payload v in
        around r i l u ∙ ap (λ (xs : List ℕ). ahead r i (size (with_view r i u)) ++ xs) (view_around w v place new others (behind r i) new_stored)

    record_around : {s : List ℕ} (e first : ℕ) → s ≡ record_out r → 8 * (e + 2) ≡ bits_before r i + bits_ahead w v → 8 * first ≡ first_bit i place r
        → Around r i (size r) s (middle w v place) (upto w v place (length (in_bytes (segments.enc v.segments))) old) (after v.segments place ++ behind r i) e (first + length old.payload)
    record_around {s} e first is p q =
        let n : ℕ = length (in_bytes (segments.enc v.segments)) in
        let m : length (middle w v place) ≡ 12 + length (in_bytes ((skeleton w).enc v.lines)) + length (in_bytes ((index_block (length v.lines)).enc v.index)) = simp length-append (omega arith) in
        let o : length (upto w v place n old) ≡ 6 + length (before v.segments place) + length old.payload = simp length-append (omega arith) in
        let f : length (ahead r i (size r)) + length (middle w v place) ≡ e =
        omega (arith, m, p, ahead_long r i (size r), block_long (skeleton w) v.lines, block_long (index_block (length v.lines)) v.index) in
        record {
          is = is ∙ old_apart;
          start = f;
          end = omega (arith, o, p, q, segments_long (take place v.segments));
        }

    -- ---- the new record's bytes, from the old one's: e is the byte of the extended length, first that of the payload

    module _ {s : List ℕ} (e first : ℕ) (is : s ≡ record_out r) (p : 8 * (e + 2) ≡ bits_before r i + bits_ahead w v) (q : 8 * first ≡ first_bit i place r) where
      pub later : e + 6 + length (before v.segments place) ≡ first
      later = omega (arith, p, q, segments_long (take place v.segments))

      -- the segments before it, and its type, are where they were
      between : part s (e + 2) (first - 2 - (e + 2)) ≡ before v.segments place ++ two old.kind
      between =
          let n : ℕ = length (in_bytes (segments.enc v.segments)) in
          let A = record_around e first is p q in
          let front : List ℕ = (ahead r i (size r) ++ middle w v place) ++ two n in
          let x : List ℕ = before v.segments place ++ two old.kind in
          let rest : List ℕ = (two (4 + length old.payload) ++ old.payload) ++ (after v.segments place ++ behind r i) in
          let g : s ≡ front ++ (x ++ rest) = A.is ∙ shift (ahead r i (size r)) (middle w v place) (two n) x (two (4 + length old.payload)) old.payload (after v.segments place ++ behind r i) in
          let y : length x ≡ first - 2 - (e + 2) = omega (arith, later, length-append (before v.segments place) (two old.kind)) in
          let z : length front ≡ e + 2 = omega (arith, A.start, length-append (ahead r i (size r) ++ middle w v place) (two n), length-append (ahead r i (size r)) (middle w v place)) in
          ap (λ (xs : List ℕ). part xs (e + 2) (first - 2 - (e + 2))) g ∙ ap (take (first - 2 - (e + 2))) (drop_at front (x ++ rest) (e + 2) z) ∙ take_at x rest (first - 2 - (e + 2)) y

      pub rewritten_bytes : record_out (rewritten i place payload r)
          ≡ ((((head_of s e (size (rewritten i place payload r)) ++ two (length (in_bytes (segments.enc others)))) ++ part s (e + 2) (first - 2 - (e + 2))) ++ two (4 + length payload)) ++ payload)
          ++ drop (first + length old.payload) s
      rewritten_bytes =
          let n : ℕ = size (rewritten i place payload r) in
          let m : ℕ = length (in_bytes (segments.enc others)) in
          new_apart ∙ spliced (record_around e first is p q) n (upto w v place m new)
          ∙ ap (λ (xs : List ℕ). xs ++ drop (first + length old.payload) s)
          (from_left (head_of s e n) (two m) (before v.segments place ++ two old.kind) (two (4 + length payload)) payload
          ∙ ap (λ (xs : List ℕ). (((head_of s e n ++ two m) ++ xs) ++ two (4 + length payload)) ++ payload) (sym between))
