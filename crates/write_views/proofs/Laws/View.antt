-- A block behind its length, and what the writers of a view's blocks ask for: room for the block is room for its bits.
use mathlib.Core.Path.{◌≡◌, refl, sym, ap, ◌∙◌}
use Prim.Native.Nat.{ℕ, ◌+◌, ◌-◌, ◌*◌, ◌≤◌, ◌<◌}
use native.Mathlib.Omega.{arith}
use mathlib.Core.Option.{Option, none, some}
use mathlib.Core.List.{List, [], ◌∷◌, ◌++◌, append_assoc, append-nil}
use lib.ListN.{length, take, drop, length-append, length-drop, drop_of_length-le}
use lib.Seq.{drop-drop, drop_at, take_all, length-take-le}
use Rattle.bits.specs.Lists.{All, total}
use Rattle.bits.specs.Bits.{Bits, zeros, pad, filled}
use Rattle.bits.specs.Bytes.{in_bytes}
use Rattle.bits.specs.CodecLaws.{enc_all}
use Rattle.bits.proofs.Laws.Parts.{part}
use Rattle.put_bytes.specs.Laid.{Laid}
use Rattle.put_bytes.specs.HighFirst.{two, start, joined}
use Rattle.put_bytes.proofs.Laws.{laid_next, lent, back}
use Rattle.format.specs.Line.{Line, FitsLine, line, skeleton}
use Rattle.format.specs.Index.{Index, index_block}
use Rattle.format.specs.View.{View}
use Rattle.format.specs.Segments.{Segment, FitsSegment, segments}
use Rattle.format.specs.declared.Widths.{Widths}
use Rattle.find_parts.proofs.Laws.Lists.{all_long}
use Rattle.find_parts.proofs.Laws.Blocks.{block_long, skeleton_is}
use Rattle.find_parts.proofs.Laws.Segments.{segments_bytes}
use Rattle.sheet_bytes.proofs.Laws.Sizes.{joined_size}
use Rattle.sheet_bytes.specs.Bytes.{line_bytes, index_bytes, segment_bytes, view_bytes}
use Rattle.find_parts.specs.Finds.{segment_stored}
use Rattle.write_blocks.specs.Run.{Other, field_of, RunAt}
use Rattle.write_blocks.specs.Puts.{line_held, LineFieldsAt}
use Rattle.write_blocks.specs.Outs.{segment_held, SegmentsAt}
use Rattle.write_blocks.specs.Lists.{IndexAt}
use Rattle.write_views.specs.Views.{SkeletonOut, IndexBehindLength, SegmentsSized, NextView, RightView}
use Rattle.find_parts.specs.Stored.{head_bytes, sized_out, view_out}
use Rattle.write_blocks.specs.declared.Done.{Done}
use Rattle.write_blocks.specs.declared.line.Lines.{Lines}
use Rattle.write_blocks.proofs.Laws.Line.{held_long}

-- ---- a block behind its length

-- the block is laid behind the first two bytes, then its length in these
pub sized_laid : {before ys now block : List ℕ} {n m : ℕ} → 2 ≤ length before → Laid block (lent before 2) ys n → Laid (two n) (back before 2 ys) now m
    → Laid (two (length block) ++ block) before now (m + n)
sized_laid {before} {ys} {now} {block} {n} {m} l h k =
    let z2 : 2 + length block ≡ length block + 2 = omega arith in
    let e0 : lent before 2 ≡ drop 2 before = take_all (length before - 2) (drop 2 before) (omega (arith, length-drop 2 before)) in
    let e1 : drop (length before - 2) (drop 2 before) ≡ [] = drop_of_length-le (drop 2 before) {i = length before - 2} (omega (arith, length-drop 2 before)) in
    let e2 : ys ≡ block ++ drop (length block + 2) before = h.is ∙ ap (λ (x : List ℕ). block ++ drop (length block) x) e0 ∙ ap (λ (x : List ℕ). block ++ x) (drop-drop (length block) 2 before ∙ ap (λ (j : ℕ). drop j before) z2) in
    let e3 : drop 2 (back before 2 ys) ≡ block ++ drop (length block + 2) before =
    drop_at (take 2 before) (ys ++ drop (length before - 2) (drop 2 before)) 2 (length-take-le 2 before l) ∙ ap (λ (x : List ℕ). ys ++ x) e1 ∙ append-nil ys ∙ e2 in
    let z : length block + 2 ≡ length (two (length block) ++ block) = omega arith in
    record {
      count = omega (arith, h.count, k.count);
      is = k.is ∙ ap (λ (x : List ℕ). two n ++ x) e3 ∙ ap (λ (j : ℕ). two j ++ (block ++ drop (length block + 2) before)) h.count
          ∙ ap (λ (j : ℕ). two (length block) ++ (block ++ drop j before)) z;
    }

-- ---- bytes of a block

pub skeleton_bytes : (w : Widths) (ls : List Line) → in_bytes (filled (enc_all (line w) ls)) ≡ in_bytes ((skeleton w).enc ls)
skeleton_bytes w ls = ap in_bytes (sym (skeleton_is w ls))

-- its lines' bits are no more
pub lines_bits : (w : Widths) (ls : List Line) → total (λ l. length ((line w).enc l)) ls ≤ 8 * length (in_bytes ((skeleton w).enc ls))
lines_bits w ls =
    let b : Bits = enc_all (line w) ls in
    omega (arith, block_long (skeleton w) ls, ap length (skeleton_is w ls), length-append b (zeros (pad (length b))), all_long (line w) ls)

pub segments_long : (gs : List Segment) → All FitsSegment gs → total (λ g. 4 + length g.payload) gs ≡ length (in_bytes (segments.enc gs))
segments_long gs f = sym (ap length (segments_bytes gs f) ∙ joined_size segment_stored (λ g. 4 + length g.payload) (λ g. omega arith) gs)

-- ---- a view's fields, part by part

-- another view, or nothing, starts with no tag but 2
next_other : (t : ℕ) (rest : List ℕ) → (2 ≡ t → ⊥) → NextView rest → Other t rest
next_other t [] n h = tt
next_other t (b ∷ bs) n h = λ e. n (sym h ∙ e)

segments_other : (t : ℕ) (gs : List Segment) (rest : List ℕ) → (2 ≡ t → ⊥) → (6 ≡ t → ⊥) → NextView rest → Other t (joined segment_bytes gs ++ rest)
segments_other t [] rest n m h = next_other t rest n h
segments_other t (g ∷ gs) rest n m h = m

index_other : (o : Option Index) (gs : List Segment) (rest : List ℕ) → NextView rest → Other 3 (index_bytes o ++ (joined segment_bytes gs ++ rest))
index_other none gs rest h = segments_other 3 gs rest (λ e. absurd (omega arith)) (λ e. absurd (omega arith)) h
index_other (some i) gs rest h = λ e. absurd (omega arith)

lines_fields : (k : ℕ) (ls : List Line) → joined (line_bytes k) ls ≡ joined (field_of 3 (line_held k)) ls
lines_fields k [] = refl
lines_fields k (l ∷ ls) =
    let z : 12 + length l.codes ≡ length (line_held k l) = sym (held_long k l refl) in
    ap (λ (n : ℕ). (start 3 n ++ line_held k l) ++ joined (line_bytes k) ls) z ∙ ap (λ (x : List ℕ). field_of 3 (line_held k) l ++ x) (lines_fields k ls)

lines_small_lem : (w : Widths) (ls : List Line) → All (FitsLine w) ls → All (λ l. length (line_held w.k l) < 65536) ls
lines_small_lem w [] f = tt
lines_small_lem w (l ∷ ls) f = (omega (arith, held_long w.k l refl, f.0.count), lines_small_lem w ls f.1)

segments_fields : (gs : List Segment) → joined segment_bytes gs ≡ joined (field_of 6 segment_held) gs
segments_fields [] = refl
segments_fields (g ∷ gs) =
    let z : 2 + length g.payload ≡ length (segment_held g) = omega arith in
    ap (λ (n : ℕ). (start 6 n ++ segment_held g) ++ joined segment_bytes gs) z ∙ ap (λ (x : List ℕ). field_of 6 segment_held g ++ x) (segments_fields gs)

segments_small : (gs : List Segment) → All FitsSegment gs → All (λ g. length (segment_held g) < 65536) gs
segments_small [] f = tt
segments_small (g ∷ gs) f = (omega (arith, f.0.length), segments_small gs f.1)

module _ (w : Widths) (s : List ℕ) (a : ℕ) (v : View) (rest : List ℕ) (e : drop a s ≡ view_bytes w.k v ++ rest) (n : NextView rest) (r : RightView w v) where
  abbrev behind_lines : List ℕ
  behind_lines = index_bytes v.index ++ (joined segment_bytes v.segments ++ rest)

  view_is : drop a s ≡ start 2 8 ++ (head_bytes v.head ++ (joined (line_bytes w.k) v.lines ++ behind_lines))
  view_is = e ∙ simp append_assoc

  pub head_there : a + 11 ≤ length s
  head_there = omega (arith, length-drop a s, ap length view_is)

  pub head_at_lem : take 8 (drop (a + 3) s) ≡ head_bytes v.head
  head_at_lem = ap (take 8) (sym (drop-drop 3 a s) ∙ ap (drop 3) view_is)

  lines_run : RunAt 3 (line_held w.k) s (a + 11) v.lines behind_lines
  lines_run =
      record {
        is = sym (drop-drop 11 a s) ∙ ap (drop 11) view_is ∙ ap (λ (x : List ℕ). x ++ behind_lines) (lines_fields w.k v.lines);
        small = lines_small_lem w v.lines r.lines;
        other = index_other v.index v.segments rest n;
      }

  pub lines_at : LineFieldsAt w s (a + 11) v.lines behind_lines
  lines_at = record { run = lines_run; fits = r.lines }

  index_behind : Other 4 (joined segment_bytes v.segments ++ rest) × Other 5 (joined segment_bytes v.segments ++ rest)
  index_behind = (
    segments_other 4 v.segments rest (λ z. absurd (omega arith)) (λ z. absurd (omega arith)) n,
    segments_other 5 v.segments rest (λ z. absurd (omega arith)) (λ z. absurd (omega arith)) n,
  )

  segments_run : {q : ℕ} → drop q s ≡ joined segment_bytes v.segments ++ rest → RunAt 6 segment_held s q v.segments rest
  segments_run d =
      record {
        is = d ∙ ap (λ (x : List ℕ). x ++ rest) (segments_fields v.segments);
        small = segments_small v.segments r.extended;
        other = next_other 6 rest (λ z. absurd (omega arith)) n;
      }

  pub segments_at : {q : ℕ} → drop q s ≡ joined segment_bytes v.segments ++ rest → SegmentsAt s q v.segments rest
  segments_at d = record { run = segments_run d; fits = r.extended }

  -- ---- what the writers leave, one behind the other

  module _ {o o1 : List ℕ} {h : ℕ} (C : Laid (part s (a + 3) (a + 11 - (a + 3))) o o1 h) where
    pub head_laid : Laid (head_bytes v.head) o o1 h
    head_laid =
        let z : a + 11 - (a + 3) ≡ 8 = omega arith in
        let y : part s (a + 3) (a + 11 - (a + 3)) ≡ head_bytes v.head = ap (part s (a + 3)) z ∙ head_at_lem in
        rw y at C

    module _ {o2 : List ℕ} {x : Lines} (S : SkeletonOut w s (a + 11) (lent o1 h) o2 x) where
      pub lines_laid : Laid (sized_out (skeleton w) v.lines) (lent o1 h) o2 x.bytes × (x.count ≡ length v.lines) × (drop x.next s ≡ behind_lines)
      lines_laid = S.is v.lines behind_lines lines_at

      -- so far
      pub lines_done : h + x.bytes ≡ 10 + length (in_bytes ((skeleton w).enc v.lines))
      lines_done = omega (arith, head_laid.count, lines_laid.0.count)

      pub index_at : IndexAt x.count s x.next v.index (joined segment_bytes v.segments ++ rest)
      index_at = record { is = lines_laid.2; behind = index_behind; fits = rw lines_laid.1 r.index }

      module _ {o3 : List ℕ} {y : Done} (I : IndexBehindLength x.count s x.next (lent (back o1 h o2) (h + x.bytes)) o3 y) where
        pub index_laid : Laid (sized_out (index_block (length v.lines)) v.index) (lent (back o1 h o2) (h + x.bytes)) o3 y.bytes × (drop y.next s ≡ joined segment_bytes v.segments ++ rest)
        index_laid =
            let (l, d) = I.is v.index (joined segment_bytes v.segments ++ rest) index_at in
            (rw lines_laid.1 at l, d)

        -- so far
        pub index_done : h + x.bytes + y.bytes ≡ 12 + length (in_bytes ((skeleton w).enc v.lines)) + length (in_bytes ((index_block (length v.lines)).enc v.index))
        index_done = omega (arith, lines_done, index_laid.0.count)

        module _ {o4 : List ℕ} {z : Done} (G : SegmentsSized s y.next (lent (back (back o1 h o2) (h + x.bytes) o3) (h + x.bytes + y.bytes)) o4 z) where
          pub segments_laid : Laid (sized_out segments v.segments) (lent (back (back o1 h o2) (h + x.bytes) o3) (h + x.bytes + y.bytes)) o4 z.bytes × (drop z.next s ≡ rest)
          segments_laid = G.is v.segments rest (segments_at index_laid.1)

          pub view_laid : Laid (view_out w v) o (back (back (back o1 h o2) (h + x.bytes) o3) (h + x.bytes + y.bytes) o4) (h + x.bytes + y.bytes + z.bytes) × (drop z.next s ≡ rest)
          view_laid =
              let l = laid_next (laid_next (laid_next head_laid lines_laid.0) index_laid.0) segments_laid.0 in
              let q : ((head_bytes v.head ++ sized_out (skeleton w) v.lines) ++ sized_out (index_block (length v.lines)) v.index) ++ sized_out segments v.segments ≡ view_out w v = simp append_assoc in
              (rw q at l, segments_laid.1)
