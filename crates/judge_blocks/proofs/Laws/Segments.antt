-- What the judge of the extended data finds: one segment, from the two numbers before its payload, and the loop over the segments,
-- which carries the bytes of those passed. The whole answer is the answer from here on with that sum added.
use mathlib.Core.Path.{◌≡◌, sym, ap, ap₂, ◌∙◌, subst}
use Prim.Native.Nat.{ℕ, ◌+◌, ◌-◌, ◌*◌, ◌≤◌, ◌<◌}
use native.Mathlib.Omega.{arith}
use native.Mathlib.Nat.{sub-zero, add-zero}
use borrow.Author.Tests.{lt-leb}
use mathlib.Core.Bool.{Bool}
use mathlib.Core.List.{List}
use lib.ListN.{length, drop}
use lib.Seq.{drop-drop}
use lib.Dec.{leb, le→leb}
use Rattle.bits.specs.Bytes.{bits_of}
use Rattle.bits.specs.BytesLaws.{length_bits_of}
use Rattle.bits.specs.Codec.{got, Codec, field_dec, then_dec}
use Rattle.bits.specs.CodecLaws.{field, then, only, times, times_back}
use Rattle.bits.specs.Block.{fill_dec}
use Rattle.bits.specs.Lists.{total}
use Rattle.bits.specs.Reads.{found, fault, Reads, keeping, summed}
use Rattle.bits.proofs.Laws.Reads.{length_rest, gives, refuses, go_on, stop, made, pass, fail, room_there, room_past, all_of, none_of, none_of_it}
use Rattle.bits.proofs.Laws.Loops.{sum_more, sum_start, fill_turn, fill_stop, fill_done}
use Rattle.bits.proofs.Laws.Parts.{bytes_there, bytes_cut, some_left, drop_end}
use Rattle.outcome.specs.Refusals.{bad_segment}
use Rattle.format.specs.Segments.{Segment, segment, segments, measured}
use Rattle.format.specs.SheetSize.{segment_size}
use Rattle.judge_blocks.specs.Answers.{segments_dec}

-- ---- one segment, of kind v and length k

segment_short : (s : List ℕ) (p : ℕ) → p ≤ 8 * length s → 8 * length s - p < 32 → Reads segment.dec s p (fault bad_segment p)
unfolding segment
segment_short s p i h = made _ _ (room_past _ bad_segment 32 i h)

module _ (s : List ℕ) (p v p1 k p2 : ℕ) (i : p + 32 ≤ 8 * length s)
    (A : Reads (field_dec bad_segment 16) s p (found v p1)) (B : Reads (field_dec bad_segment 16) s p1 (found k p2)) where
  abbrev payload : ℕ → Codec Bool (List ℕ)
  payload n = times (field bad_segment 8) (n - 4)

  abbrev body : Codec Bool (ℕ × List ℕ)
  body = then (only (field bad_segment 16) bad_segment (leb 4)) payload

  segment_low : k < 4 → Reads segment.dec s p (fault bad_segment p1)
  unfolding segment
  segment_low h =
      made _ _ (room_there _ bad_segment 32 i (go_on _ (λ _. measured) A
      (none_of body A.within (stop _ _ (fail _ bad_segment (leb 4) A.within B (rw (lt-leb 4 k h) tt))))))

  measured_cut : 4 ≤ k → 8 * length s - p2 < 8 * (k - 4) → Reads measured.dec s p1 (fault bad_segment p1)
  unfolding then_dec
  measured_cut h l =
      let (x, z) = bytes_cut bad_segment (k - 4) (drop p2 (bits_of s)) (rw (length_rest s p2) l) in
      let y = pass (field bad_segment 16) bad_segment (leb 4) B (le→leb 4 k h) in
      none_of_it body bad_segment x A.within (rw (y.is, z))

  segment_cut : 4 ≤ k → 8 * length s - p2 < 8 * (k - 4) → Reads segment.dec s p (fault bad_segment p1)
  unfolding segment
  segment_cut h l = made _ _ (room_there _ bad_segment 32 i (go_on _ (λ _. measured) A (measured_cut h l)))

  segment_good : {P : Type 0} → 4 ≤ k → 8 * (k - 4) ≤ 8 * length s - p2
      → ((g : Segment) → segment_size g ≡ k + 1 → Reads segment.dec s p (found g (p2 + 8 * (k - 4))) → P) → P
  unfolding segment
  segment_good h l f =
      let (xs, z) = bytes_there bad_segment (k - 4) (drop p2 (bits_of s)) (rw (length_rest s p2) l) in
      let n : length xs ≡ k - 4 = (times_back (field bad_segment 8) (k - 4) _ xs _ z).0.0 in
      let y = pass (field bad_segment 16) bad_segment (leb 4) B (le→leb 4 k h) in
      let t : Reads (payload k).dec s p2 (found xs (p2 + 8 * (k - 4))) =
      gives _ xs (p2 + 8 * (k - 4)) (omega (arith, B.within)) (z ∙ ap (got xs) (drop-drop (8 * (k - 4)) p2 (bits_of s))) in
      f (record { kind = v; payload = xs }) (omega arith)
      (made _ _ (room_there _ bad_segment 32 i (go_on _ (λ _. measured) A (all_of body (go_on _ payload y t)))))

-- ---- the segments of the block s: those passed take z bytes in the sheet, and the next is at place p

pub record Filled (s : List ℕ) (z p : ℕ) : Type 0 where
  pub passed : ℕ
  pub few : passed ≤ p
  pub small : z ≤ p
  pub within : p ≤ 8 * length s
  pub is : summed segment_size z (fill_dec segment bad_segment (8 * length s - passed) (drop p (bits_of s))) ≡ segments_dec (bits_of s)

pub fill_start : (s : List ℕ) (p : ℕ) → p ≡ 0 → Filled s 0 p
unfolding segments_dec segments
fill_start s p e =
    let first = sum_start segment_size (fill_dec segment bad_segment (8 * length s - 0) (bits_of s))
    ∙ ap (λ (k : ℕ). keeping (total segment_size) (fill_dec segment bad_segment k (bits_of s))) (sub-zero _ ∙ sym (length_bits_of s)) in
    record { passed = 0; few = omega arith; small = omega arith; within = omega arith; is = subst (λ (q : ℕ). summed segment_size 0 (fill_dec segment bad_segment (8 * length s - 0) (drop q (bits_of s))) ≡ segments_dec (bits_of s)) (sym e) first }

module _ {s : List ℕ} {z p : ℕ} (F : Filled s z p) where
  pub fill_end : 8 * length s ≤ p → Reads segments_dec s 0 (found z (8 * length s))
  fill_end h =
      gives _ z (8 * length s) (omega arith)
      (sym F.is ∙ ap (summed segment_size z) (fill_done segment bad_segment (8 * length s - F.passed) (drop p (bits_of s)) (drop_end s p h))
      ∙ ap₂ got (add-zero z) (sym (drop_end s (8 * length s) (omega arith))))

  -- a segment follows
  module _ (l : p < 8 * length s) where
    fill_bad : {e q : ℕ} → Reads segment.dec s p (fault e q) → Reads segments_dec s 0 (fault e q)
    fill_bad {e} {q} r =
        refuses _ e q r.within
        (sym F.is ∙ ap (summed segment_size z) (fill_stop segment bad_segment (8 * length s) F.passed (drop p (bits_of s)) (omega (arith, F.few)) (some_left s p l) r.is))

    pub fill_short : 8 * length s - p < 32 → Reads segments_dec s 0 (fault bad_segment p)
    fill_short h = fill_bad (segment_short s p F.within h)

    -- its kind is v, and its length k
    module _ {v k p1 p2 : ℕ} (i : 32 ≤ 8 * length s - p) (A : Reads (field_dec bad_segment 16) s p (found v p1)) (B : Reads (field_dec bad_segment 16) s p1 (found k p2)) where
      pub fill_low : k < 4 → Reads segments_dec s 0 (fault bad_segment p1)
      fill_low h = fill_bad (segment_low s p v p1 k p2 (omega arith) A B h)

      pub fill_cut : 4 ≤ k → 8 * length s - p2 < 8 * (k - 4) → Reads segments_dec s 0 (fault bad_segment p1)
      fill_cut h r = fill_bad (segment_cut s p v p1 k p2 (omega arith) A B h r)

      pub fill_next : p2 ≡ p + 32 → 4 ≤ k → 8 * (k - 4) ≤ 8 * length s - p2 → Filled s (z + (k + 1)) (p2 + 8 * (k - 4))
      fill_next e h r =
          segment_good s p v p1 k p2 (omega arith) A B h r λ g y t.
          record {
            passed = F.passed + 1;
            few = omega (arith, F.few);
            small = omega (arith, F.small);
            within = t.within;
            is = rw (← y)
                (sym (fill_turn segment bad_segment (8 * length s) F.passed (drop p (bits_of s)) (λ xs. z + total segment_size xs) (omega (arith, F.few)) (some_left s p l) t.is
                ∙ sum_more segment_size z g (fill_dec segment bad_segment (8 * length s - (F.passed + 1)) (drop (p2 + 8 * (k - 4)) (bits_of s)))) ∙ F.is);
          }
