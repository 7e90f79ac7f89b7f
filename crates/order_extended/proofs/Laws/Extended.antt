-- The segments of an extended block under a removal, one by one: those before are measured, or put, the others are still to come.
use mathlib.Core.Path.{◌≡◌, refl, sym, ap, ◌∙◌, subst}
use Prim.Native.Nat.{ℕ, ◌+◌, ◌≤◌}
use native.Mathlib.Omega.{arith}
use mathlib.Core.List.{List, [], ◌∷◌, ◌++◌, append_assoc, append-nil}
use lib.ListN.{length, length-append, length-take, length-drop}
use lib.Dec.{T}
use Rattle.bits.specs.Lists.{All}
use Rattle.bits.specs.ListsLaws.{yes_every, every_yes}
use Rattle.bits.specs.Bits.{Bits}
use Rattle.bits.specs.Bytes.{Byte, bits_of}
use Rattle.bits.specs.BytesLaws.{length_bits_of}
use Rattle.bits.specs.Codec.{got}
use Rattle.put_bytes.specs.Laid.{Laid}
use Rattle.put_bytes.specs.HighFirst.{joined}
use Rattle.put_bytes.proofs.Laws.{lent, back, laid_none, laid_next, laid_same}
use Rattle.format.specs.Segments.{Segment, FitsSegment, segment, segments}
use Rattle.find_parts.specs.Finds.{segment_stored}
use Rattle.find_parts.proofs.Laws.Segments.{segments_bytes}
use Rattle.find_parts.proofs.Laws.Lists.{all_long}
use Rattle.rewrite.proofs.Laws.Bytes.{segments_long}
use Rattle.pores.specs.Keep.{keep_segments, pores_right, all_pores_right}
use Rattle.orders.specs.Listed.{removal_lines}
use Rattle.order_removal.specs.Rank.{Rising}
use Rattle.orders.proofs.Laws.Pores.{kept_fits, segments_fit}
use Rattle.order_segments.specs.Walk.{segments_in}
pub use Rattle.order_segments.proofs.Laws.Over.{block_fits}
use Rattle.order_segments.proofs.Laws.Over.{stored_long, OverAll, over_first, Here, segment_here, over_next, over_done}
use Rattle.order_extended.specs.Segment.{kept_segment, SegmentToKeep, SegmentSized, SegmentPutThere, SegmentPut}
use Rattle.order_extended.specs.Extended.{kept_segments, kept_extended, ExtendedToKeep, ExtendedSized, ExtendedPutThere, ExtendedPut}

-- ---- what is known of segments that are still to come

pub record Known (lines : ℕ) (gs : List Segment) : Type 0 where
  pub fit : All FitsSegment gs
  pub right : T (all_pores_right lines gs)

known_first : (lines : ℕ) (g : Segment) (gs : List Segment) → Known lines (g ∷ gs) → FitsSegment g × T (pores_right lines g) × Known lines gs
unfolding all_pores_right
known_first lines g gs k =
    let (a, b) = yes_every (pores_right lines) (g ∷ gs) k.right in
    (k.fit.0, a, record { fit = k.fit.1; right = every_yes (pores_right lines) gs b })

-- the bytes of those that are kept
abbrev kept_bytes : (lines : ℕ) → (removal : List ℕ) → List Segment → List ℕ
kept_bytes lines removal gs = joined segment_stored (kept_segments lines removal gs)

kept_bytes_lem : (lines : ℕ) (removal : List ℕ) (gs : List Segment) → All FitsSegment gs → kept_extended lines removal gs ≡ kept_bytes lines removal gs
kept_bytes_lem lines removal gs f = segments_bytes (kept_segments lines removal gs) (segments_fit lines (removal_lines removal) gs f)

kept_more : (lines : ℕ) (removal : List ℕ) (g : Segment) (gs : List Segment) → kept_bytes lines removal (g ∷ gs) ≡ segment_stored (kept_segment lines removal g) ++ kept_bytes lines removal gs
unfolding keep_segments
kept_more lines removal g gs = refl

kept_nothing : (lines : ℕ) (removal : List ℕ) → kept_bytes lines removal [] ≡ []
unfolding keep_segments
kept_nothing lines removal = refl

-- no longer than those that were there, which are the block
kept_short : (lines : ℕ) (removal : List ℕ) (gs : List Segment) → All FitsSegment gs → length (kept_bytes lines removal gs) ≤ length (joined segment_stored gs)
kept_short lines removal [] f = omega (arith, ap length (kept_nothing lines removal))
kept_short lines removal (g ∷ gs) f =
    omega (
      arith,
      ap length (kept_more lines removal g gs),
      length-append (segment_stored (kept_segment lines removal g)) (kept_bytes lines removal gs),
      length-append (segment_stored g) (joined segment_stored gs),
      stored_long g,
      stored_long (kept_segment lines removal g),
      (kept_fits lines (removal_lines removal) g f.0).1,
      kept_short lines removal gs f.1,
    )

stored_all : (s : List ℕ) (gs : List Segment) (u : Bits) → segments.dec (bits_of s) ≡ got gs u → length (joined segment_stored gs) ≡ length s
unfolding segments
stored_all s gs u h =
    let e = (segments.back (bits_of s) gs (omega (arith, length_bits_of s)) (h ∙ ap (got gs) (segments.all (bits_of s) gs u h))).1 in
    omega (arith, ap length e, length_bits_of s, all_long segment gs, segments_long gs)

-- ---- the segment that comes next, in whatever way those before are done; p: its bytes

module _ {Rest : List Segment → List Segment → Type 0} (lines : ℕ) (removal : List ℕ) (know : (gs more : List Segment) → Rest gs more → T (all_pores_right lines gs) → Known lines more)
    {gs : List Segment} {p : List ℕ} {qs : List (List ℕ)} (t : Here Rest gs p qs) where
  pub its_known : T (all_pores_right lines gs) → FitsSegment t.value × T (pores_right lines t.value) × Known lines t.more
  its_known k = known_first lines t.value t.more (know gs (t.value ∷ t.more) t.rest k)

  abbrev pub its_to_keep : lines ≤ 1024 → Rising removal → T (all_pores_right lines gs) → SegmentToKeep p lines removal
  its_to_keep few rising k = record { few = few; rising = rising; value = t.value; fits = t.fits; is = t.is; right = (its_known k).1 }

-- ---- sizing

module _ (lines : ℕ) (removal : List ℕ) where
  -- of all, those before have so many bytes
  pub record Sized (size : ℕ) (gs more : List Segment) : Type 0 where
    pub known : Known lines more
    pub sums : size + length (kept_bytes lines removal more) ≡ length (kept_bytes lines removal gs)

  abbrev pub Sizing : ℕ → List Segment → List Segment → Type 0
  Sizing size gs more = T (all_pores_right lines gs) → Sized size gs more

  pub sizing_knows : (size : ℕ) (gs more : List Segment) → Sizing size gs more → T (all_pores_right lines gs) → Known lines more
  sizing_knows size gs more r k = (r k).known

  pub sizing_first : (s : List ℕ) → All Byte s → OverAll (Sizing 0) s (segments_in s)
  sizing_first s bytes = over_first (Sizing 0) s bytes (λ gs u h k. record { known = record { fit = block_fits s gs u h; right = k }; sums = omega arith })

  module _ {s : List ℕ} {ps : List (List ℕ)} {size : ℕ} (S : OverAll (Sizing size) s ps) where
    -- no more than the block had
    pub size_small : ExtendedToKeep s lines removal → size ≤ 65535
    size_small k =
        let b = k.block in
        omega (arith, ((S b.value b.left b.reads).rest k.right).sums, kept_short lines removal b.value (block_fits s b.value b.left b.reads), stored_all s b.value b.left b.reads, b.short)

    module _ {p : List ℕ} {qs : List (List ℕ)} (e : ps ≡ p ∷ qs) where
      pub size_there : ExtendedToKeep s lines removal → SegmentToKeep p lines removal
      size_there k = let b = k.block in its_to_keep lines removal (sizing_knows size) (segment_here (Sizing size) S e b.value b.left b.reads) k.few k.rising k.right

      pub sizing_next : {r : ℕ} → SegmentSized p lines removal r → OverAll (Sizing (size + r)) s qs
      sizing_next {r} Z =
          over_next (Sizing size) S e (Sizing (size + r)) λ gs u h k.
          let x = segment_here (Sizing size) S e gs u h in
          let y = x.rest k in
          let (f, q, known) = its_known lines removal (sizing_knows size) x k in
          let z = Z.is x.value x.is f q in
          record {
            known = known;
            sums = omega (
              arith,
              z,
              y.sums,
              ap length (kept_more lines removal x.value x.more),
              length-append (segment_stored (kept_segment lines removal x.value)) (kept_bytes lines removal x.more),
            );
          }

    pub sized : ps ≡ [] → ExtendedSized s lines removal size
    sized e =
        record {
          is = λ gs u h k.
              let y = over_done (Sizing size) S e gs u h k in
              omega (arith, y.sums, ap length (kept_nothing lines removal), ap length (kept_bytes_lem lines removal gs (block_fits s gs u h)));
        }

-- ---- putting

module _ (lines : ℕ) (removal old : List ℕ) where
  -- those before are laid
  pub record Put (now : List ℕ) (at : ℕ) (gs more : List Segment) : Type 0 where
    pub known : Known lines more
    pub done : List ℕ
    pub laid : Laid done old now at
    pub whole : done ++ kept_bytes lines removal more ≡ kept_bytes lines removal gs

  abbrev pub Putting : (now : List ℕ) (at : ℕ) → List Segment → List Segment → Type 0
  Putting now at gs more = T (all_pores_right lines gs) → Put now at gs more

  pub putting_knows : (now : List ℕ) (at : ℕ) (gs more : List Segment) → Putting now at gs more → T (all_pores_right lines gs) → Known lines more
  putting_knows now at gs more r k = (r k).known

  pub putting_first : (s : List ℕ) → All Byte s → OverAll (Putting old 0) s (segments_in s)
  putting_first s bytes = over_first (Putting old 0) s bytes (λ gs u h k. record { known = record { fit = block_fits s gs u h; right = k }; done = []; laid = laid_none old; whole = refl })

  module _ {s now : List ℕ} {ps : List (List ℕ)} {at : ℕ} (S : OverAll (Putting now at) s ps) where
    -- there is room for what is still to come
    pub room_left : (k : ExtendedPutThere s lines removal old) → (at + length (kept_bytes lines removal (S k.there.block.value k.there.block.left k.there.block.reads).more) ≤ length old) × (length now ≡ length old)
    room_left k =
        let b = k.there.block in
        let y = (S b.value b.left b.reads).rest k.there.right in
        let i = length-append y.done (kept_bytes lines removal (S b.value b.left b.reads).more) in
        let e = ap length (kept_bytes_lem lines removal b.value (block_fits s b.value b.left b.reads)) in
        let r : at + length (kept_bytes lines removal (S b.value b.left b.reads).more) ≤ length old = omega (arith, i, ap length y.whole, y.laid.count, k.room, e) in
        (r, laid_same y.laid (omega (arith, r)))

    module _ {p : List ℕ} {qs : List (List ℕ)} (e : ps ≡ p ∷ qs) where
      pub put_there : ExtendedPutThere s lines removal old → SegmentPutThere p lines removal (lent now at)
      put_there k =
          let b = k.there.block in
          let x = segment_here (Putting now at) S e b.value b.left b.reads in
          let y = x.rest k.there.right in
          let g : List ℕ = segment_stored (kept_segment lines removal x.value) in
          let j = length-append y.done (kept_bytes lines removal (x.value ∷ x.more)) in
          let m = ap length (kept_more lines removal x.value x.more) in
          let n = length-append g (kept_bytes lines removal x.more) in
          let w = ap length (kept_bytes_lem lines removal b.value (block_fits s b.value b.left b.reads)) in
          record {
            there = its_to_keep lines removal (putting_knows now at) x k.there.few k.there.rising k.there.right;
            room = simp (length-take, length-drop) (omega (arith, j, m, n, w, ap length y.whole, y.laid.count, k.room, (room_left k).1));
          }

      pub putting_next : {ys : List ℕ} {r : ℕ} → SegmentPut p lines removal (lent now at) ys r → OverAll (Putting (back now at ys) (at + r)) s qs
      putting_next {ys} {r} P =
          over_next (Putting now at) S e (Putting (back now at ys) (at + r)) λ gs u h k.
          let x = segment_here (Putting now at) S e gs u h in
          let y = x.rest k in
          let (f, q, known) = its_known lines removal (putting_knows now at) x k in
          let g : List ℕ = segment_stored (kept_segment lines removal x.value) in
          record {
            known = known;
            done = y.done ++ g;
            laid = laid_next y.laid (P.is x.value x.is f q);
            whole = append_assoc y.done g (kept_bytes lines removal x.more) ∙ ap (λ (xs : List ℕ). y.done ++ xs) (sym (kept_more lines removal x.value x.more)) ∙ y.whole;
          }

    pub put_done : ps ≡ [] → ExtendedPut s lines removal old now at
    put_done z =
        record {
          is = λ gs u h k.
              let y = over_done (Putting now at) S z gs u h k in
              let e : y.done ≡ kept_extended lines removal gs =
              sym (append-nil y.done) ∙ ap (λ (xs : List ℕ). y.done ++ xs) (sym (kept_nothing lines removal)) ∙ y.whole ∙ sym (kept_bytes_lem lines removal gs (block_fits s gs u h)) in
              subst (λ (xs : List ℕ). Laid xs old now at) e y.laid;
        }

-- ---- no longer than the block

pub extended_short : (lines : ℕ) (removal s : List ℕ) (gs : List Segment) (u : Bits) → segments.dec (bits_of s) ≡ got gs u → length (kept_extended lines removal gs) ≤ length s
extended_short lines removal s gs u h =
    let f : All FitsSegment gs = block_fits s gs u h in
    omega (arith, ap length (kept_bytes_lem lines removal gs f), kept_short lines removal gs f, stored_all s gs u h)
