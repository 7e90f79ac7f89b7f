-- The parts of the new record, laid one behind the other: each ends where the sizes say, so that there is room for the next, and all
-- together are the record that the order leaves.
use mathlib.Core.Path.{◌≡◌, sym, ap, ◌∙◌, subst}
use Prim.Native.Nat.{ℕ, ◌+◌, ◌-◌, ◌≤◌}
use native.Mathlib.Omega.{arith}
use mathlib.Core.List.{List, ◌++◌}
use lib.ListN.{length, drop, length-take, length-drop}
use lib.Seq.{take_all}
use Rattle.bits.specs.Lists.{All}
use Rattle.bits.specs.Bytes.{Byte}
use Rattle.bits.proofs.Laws.Parts.{part}
use Rattle.put_bytes.specs.Laid.{Laid}
use Rattle.put_bytes.proofs.Laws.{laid_same, laid_next, lent, back}
use Rattle.format.specs.Record.{Record}
use Rattle.format.specs.Places.{view_at}
use Rattle.find_parts.specs.Stored.{sized, record_out}
use Rattle.find_parts.proofs.Laws.Blocks.{cut}
use Rattle.find_parts.proofs.Laws.Written.{stored_long}
use Rattle.order_lines.specs.Lines.{kept_block}
use Rattle.order_extended.specs.Extended.{kept_extended}
use Rattle.put_record.specs.Head.{head_of, HeadLaid}
use Rattle.put_record.proofs.Laws.{is_stored}
use Rattle.order_record.specs.Blocks.{SkeletonRoom, SkeletonLaid, new_index_block, IndexRoom, IndexLaid, ExtendedRoom, ExtendedLaid}
use Rattle.order_record.specs.Rebuilt.{RebuildRoom, Rebuilt}
use Rattle.find_parts.specs.Site.{SiteOf}
use Rattle.find_parts.specs.declared.site.Site.{Site}
use Rattle.order_record.specs.declared.measure.Sizes.{Sizes}
use Rattle.order_record.proofs.Laws.Site.{short, old_skeleton, old_index, old_extended}
use Rattle.order_record.proofs.Laws.Splice.{from_long, spliced, head_long, new_size}

-- the rest of s fits into the rest of o
rest_into : (s o : List ℕ) (e a : ℕ) → length s - e + a ≤ length o → length (part s e (length s - e)) ≤ length (lent o a)
rest_into s o e a h = simp (length-take, length-drop) (omega arith)

module _ {s : List ℕ} {x : Site} {words removal : List ℕ} {m : Sizes} {out : List ℕ} (t : RebuildRoom s x words removal m out) (f : All Byte s) where
  stored : s ≡ record_out t.placed.value
  stored = is_stored f t.placed.reads

  pub in_all : m.bytes ≡ x.skeleton.from + m.skeleton + 2 + m.index + 2 + m.extended + (length s - x.extended.to)
  in_all =
      let z = t.sizes in
      omega (arith, z.bytes, z.skeleton, z.index.bytes, z.extended, new_size t.placed.at stored removal words)

  pub front : 34 ≤ x.skeleton.from
  front = from_long t.placed.at

  pub places : (x.skeleton.from ≤ x.skeleton.to) × (x.index.from ≡ x.skeleton.to + 2) × (x.index.from ≤ x.index.to) × (x.extended.from ≡ x.index.to + 2)
      × (x.extended.from ≤ x.extended.to) × (x.extended.to ≤ length s) × (length s ≤ 32768)
  places = let a = t.placed.at in (a.lines.from, a.next, a.index.from, a.last, a.segments.from, a.segments.within, short t.placed)

  pub head_end : {o o1 : List ℕ} {a : ℕ} → HeadLaid s (x.skeleton.from - 2) m.bytes o o1 a → a + 2 ≡ x.skeleton.from
  head_end h = omega (arith, h.count, front, head_long t.placed.at stored m.bytes)

  pub skeleton_room : {rest : List ℕ} → 2 + m.skeleton ≤ length rest → SkeletonRoom x.widths (cut s x.skeleton.from x.skeleton.to) x.lines removal m.skeleton rest
  unfolding old_skeleton
  skeleton_room h =
      record { there = old_skeleton t.placed f; size = rw t.placed.at.widths t.sizes.skeleton; small = omega (arith, in_all, t.small); room = h }

  pub skeleton_end : {o o1 : List ℕ} {a : ℕ} → SkeletonLaid x.widths (cut s x.skeleton.from x.skeleton.to) removal o o1 a → a ≡ 2 + m.skeleton
  skeleton_end h =
      let a = t.placed.at in
      let v = view_at t.placed.value t.placed.place in
      let z : m.skeleton ≡ length (kept_block x.widths removal v.lines) = rw a.widths t.sizes.skeleton in
      omega (arith, (h.is v.lines a.lines.value).count, z)

  pub index_room : {rest : List ℕ} → 2 + m.index ≤ length rest → IndexRoom (cut s x.index.from x.index.to) x.lines words removal m.width m.index rest
  unfolding old_index
  index_room h = record { there = old_index t.placed; size = t.sizes.index; small = omega (arith, in_all, t.small); room = h }

  pub index_end : {o o1 : List ℕ} {a : ℕ} → IndexLaid (cut s x.index.from x.index.to) x.lines words removal o o1 a → a ≡ 2 + m.index
  index_end h =
      let a = t.placed.at in
      let v = view_at t.placed.value t.placed.place in
      omega (arith, (h.is v.index a.index.value).count, t.sizes.index.bytes)

  pub extended_room : {rest : List ℕ} → 2 + m.extended ≤ length rest → ExtendedRoom (cut s x.extended.from x.extended.to) x.lines removal m.extended rest
  unfolding old_extended
  extended_room h =
      record { there = old_extended t.placed f; size = rw t.placed.at.count t.sizes.extended; small = omega (arith, in_all, t.small); room = h }

  pub extended_end : {o o1 : List ℕ} {a : ℕ} → ExtendedLaid (cut s x.extended.from x.extended.to) x.lines removal o o1 a → a ≡ 2 + m.extended
  extended_end h =
      let a = t.placed.at in
      let v = view_at t.placed.value t.placed.place in
      let z : m.extended ≡ length (kept_extended x.lines removal v.segments) = rw a.count t.sizes.extended in
      omega (arith, (h.is v.segments a.segments.value).count, z)

  -- what is laid before the extended block leaves room for it
  pub third_room : {o o1 o2 o3 o4 o5 : List ℕ} {a b c : ℕ} → HeadLaid s (x.skeleton.from - 2) m.bytes o o1 a
      → SkeletonLaid x.widths (cut s x.skeleton.from x.skeleton.to) removal o2 o3 b
      → IndexLaid (cut s x.index.from x.index.to) x.lines words removal o4 o5 c → a + b + c + (2 + m.extended) ≤ length out
  third_room H K I = omega (arith, t.room, in_all, head_end H, skeleton_end K, index_end I)

  -- the whole, and the buffer behind it
  pub whole : {after : List ℕ} {n : ℕ} → Rebuilt s x words removal m out after n → (n ≡ m.bytes) × (length after ≡ length out)
  whole R =
      let p = t.placed in
      let L = R.is p.value p.place p.reads p.at t.sizes in
      let e : _ ≡ m.bytes = L.count ∙ stored_long _ ∙ sym t.sizes.bytes in
      (e, laid_same L (omega (arith, e, t.room)))

-- ---- the parts, laid one behind the other

-- the buffer after the first bytes and the three blocks
abbrev pub filled : (o1 o2 o3 o4 : List ℕ) (a b c : ℕ) → List ℕ
filled o1 o2 o3 o4 a b c = back (back (back o1 a o2) (a + b) o3) (a + b + c) o4

module _ (s : List ℕ) (x : Site) (m : Sizes) {words removal : List ℕ} {o o1 : List ℕ} {a : ℕ} (H : HeadLaid s (x.skeleton.from - 2) m.bytes o o1 a)
    {o2 : List ℕ} {b : ℕ} (K : SkeletonLaid x.widths (cut s x.skeleton.from x.skeleton.to) removal (lent o1 a) o2 b)
    {o3 : List ℕ} {c : ℕ} (I : IndexLaid (cut s x.index.from x.index.to) x.lines words removal (lent (back o1 a o2) (a + b)) o3 c)
    {o4 : List ℕ} {d : ℕ} (E : ExtendedLaid (cut s x.extended.from x.extended.to) x.lines removal (lent (back (back o1 a o2) (a + b) o3) (a + b + c)) o4 d) where
  blocks_laid : (r : Record) (i : ℕ) → SiteOf r s i x
      → Laid (((head_of s (x.skeleton.from - 2) m.bytes ++ sized (kept_block r.head.scale.widths removal (view_at r i).lines)) ++ sized (new_index_block removal words (view_at r i).index))
      ++ sized (kept_extended (length (view_at r i).lines) removal (view_at r i).segments)) o (filled o1 o2 o3 o4 a b c) (a + b + c + d)
  blocks_laid r i S =
      let v = view_at r i in
      let k = rw S.widths at (K.is v.lines S.lines.value) in
      let g = rw S.count at (E.is v.segments S.segments.value) in
      laid_next (laid_next (laid_next H k) (I.is v.index S.index.value)) g

  -- there is room for what is left of the record behind its blocks
  pub rest_fits : (t : RebuildRoom s x words removal m o) (f : All Byte s) → length (part s x.extended.to (length s - x.extended.to)) ≤ length (lent (filled o1 o2 o3 o4 a b c) (a + b + c + d))
  rest_fits t f =
      let r : length s - x.extended.to + (a + b + c + d) ≤ length o = omega (arith, t.room, in_all t f, head_end t f H, skeleton_end t f K, index_end t f I, extended_end t f E) in
      rest_into s (filled o1 o2 o3 o4 a b c) x.extended.to (a + b + c + d) (omega (arith, r, laid_same (blocks_laid t.placed.value t.placed.place t.placed.at) (omega (arith, r))))

  pub rebuilt : All Byte s → {o5 : List ℕ} {n : ℕ} → Laid (part s x.extended.to (length s - x.extended.to)) (lent (filled o1 o2 o3 o4 a b c) (a + b + c + d)) o5 n
      → Rebuilt s x words removal m o (back (filled o1 o2 o3 o4 a b c) (a + b + c + d) o5) (a + b + c + d + n)
  rebuilt f {o5} {n} T =
      record {
        is = λ r i e S z.
            let v = view_at r i in
            let g : part s x.extended.to (length s - x.extended.to) ≡ drop x.extended.to s = take_all (length s - x.extended.to) (drop x.extended.to s) (omega (arith, length-drop x.extended.to s)) in
            let all = laid_next (blocks_laid r i S) (rw g at T) in
            let w = r.head.scale.widths in
            let q = ap (λ (j : ℕ). (((head_of s (x.skeleton.from - 2) j ++ sized (kept_block w removal v.lines)) ++ sized (new_index_block removal words v.index)) ++ sized (kept_extended (length v.lines) removal v.segments)) ++ drop x.extended.to s) z.bytes ∙ sym (spliced S (is_stored f e) removal words) in
            subst (λ (ys : List ℕ). Laid ys o (back (filled o1 o2 o3 o4 a b c) (a + b + c + d) o5) (a + b + c + d + n)) q all;
      }
