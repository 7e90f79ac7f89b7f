-- The loop over a view's segments: what is laid so far, a segment more, and all of them.
use mathlib.Core.Path.{◌≡◌, ap, ◌∙◌}
use Prim.Native.Nat.{ℕ, ◌+◌, ◌-◌, ◌*◌, ◌≤◌, ◌<◌}
use native.Mathlib.Omega.{arith}
use mathlib.Core.List.{List, ◌++◌}
use lib.ListN.{length, take, drop, get_or}
use Rattle.bits.specs.Lists.{total}
use Rattle.bits.specs.ListsLaws.{total_append}
use Rattle.bits.proofs.Laws.Parts.{part}
use Rattle.put_bytes.specs.Laid.{Laid}
use Rattle.put_bytes.specs.HighFirst.{two, joined}
use Rattle.put_bytes.proofs.Laws.{laid_none, laid_next, joined_snoc, lent, back}
use Rattle.format.specs.Segments.{Segment, FitsSegment}
use Rattle.sheet_bytes.proofs.Laws.Sizes.{joined_size}
use Rattle.find_parts.specs.Finds.{segment_stored}
use Rattle.write_blocks.specs.Outs.{segment_held, SegmentsAt, SegmentsWritten}
use Rattle.write_blocks.proofs.Laws.Run.{FieldNext, run_next, Going, going_first, going_fits, going_next, going_ends}

-- those of the segments gs that the loop has passed are laid
abbrev pub GoingOn : List ℕ → ℕ → List ℕ → List ℕ → ℕ → List Segment → List ℕ → Type 0
GoingOn s p before now at gs rest = Going 6 segment_held FitsSegment (λ done. Laid (joined segment_stored done) before now at) s p gs rest

-- whatever segments they are
abbrev pub SegmentsGoing : List ℕ → ℕ → List ℕ → ℕ → List ℕ → ℕ → Type 0
SegmentsGoing s a before p now at = (gs : List Segment) (rest : List ℕ) → SegmentsAt s a gs rest → GoingOn s p before now at gs rest

pub segments_first : (s : List ℕ) (a : ℕ) (before : List ℕ) → SegmentsGoing s a before a before 0
segments_first s a before gs rest h = going_first h.run h.fits (laid_none before)

stored_long : (g : Segment) → length (segment_stored g) ≡ 4 + length g.payload
stored_long g = omega arith

-- what code lays of a value is the segment
stored_is : (g : Segment) (v : List ℕ) → v ≡ segment_held g → (take 2 v ++ two (length v + 2)) ++ drop 2 v ≡ segment_stored g
stored_is g v e =
    let z : length (segment_held g) + 2 ≡ 4 + length g.payload = omega arith in
    ap (λ (v : List ℕ). (take 2 v ++ two (length v + 2)) ++ drop 2 v) e ∙ ap (λ (n : ℕ). two g.kind ++ (two n ++ g.payload)) z

module _ {s : List ℕ} {p : ℕ} (l : p < length s) (t : get_or s p 0 ≡ 6) where
  module _ {before now : List ℕ} {at : ℕ} {gs : List Segment} {rest : List ℕ} (g : GoingOn s p before now at gs rest) where
    abbrev pub segment_here : FieldNext 6 segment_held s p g.more rest
    segment_here = run_next g.run l t

    -- there is room for it
    pub segment_room : {n : ℕ} → total (λ g. 4 + length g.payload) gs ≤ n → at + (4 + length segment_here.one.payload) ≤ n
    segment_room r =
        let f : Segment → ℕ = λ g. 4 + length g.payload in
        let a : total f gs ≡ total f g.done + total f g.more = ap (total f) g.is ∙ total_append f g.done g.more in
        let b : total f g.more ≡ f segment_here.one + total f segment_here.more = ap (total f) segment_here.is in
        omega (arith, g.holds.count, joined_size segment_stored f stored_long g.done)

    pub segment_small : 4 + length segment_here.one.payload < 65536
    segment_small = (going_fits g segment_here).length

    -- its value as code cuts it out, and what is laid of it
    module _ {n : ℕ} (e : n ≡ get_or s (p + 1) 0 * 256 + get_or s (p + 1 + 1) 0) where
      pub segment_held_lem : part s (p + 3) (p + 3 + n - (p + 3)) ≡ segment_held segment_here.one
      segment_held_lem =
          let y : p + 3 + n - (p + 3) ≡ length (segment_held segment_here.one) = omega (arith, segment_here.size) in
          ap (part s (p + 3)) y ∙ segment_here.holds

      pub segment_long_lem : length (part s (p + 3) (p + 3 + n - (p + 3))) ≡ 2 + length segment_here.one.payload
      segment_long_lem = omega (arith, ap length segment_held_lem)

      pub segment_laid : {out ys : List ℕ} {m : ℕ}
          → Laid ((take 2 (part s (p + 3) (p + 3 + n - (p + 3))) ++ two (length (part s (p + 3) (p + 3 + n - (p + 3))) + 2)) ++ drop 2 (part s (p + 3) (p + 3 + n - (p + 3)))) out ys m
          → Laid (segment_stored segment_here.one) out ys m
      segment_laid h = rw (stored_is segment_here.one _ segment_held_lem) at h

  pub segments_next : {a : ℕ} {before now ys : List ℕ} {at n m : ℕ} → SegmentsGoing s a before p now at → n ≡ get_or s (p + 1) 0 * 256 + get_or s (p + 1 + 1) 0
      → Laid ((take 2 (part s (p + 3) (p + 3 + n - (p + 3))) ++ two (length (part s (p + 3) (p + 3 + n - (p + 3))) + 2)) ++ drop 2 (part s (p + 3) (p + 3 + n - (p + 3)))) (lent now at) ys m
      → SegmentsGoing s a before (p + 3 + n) (back now at ys) (at + m)
  segments_next {n = n} G e h gs rest x =
      let g = G gs rest x in
      let N = segment_here g in
      let z : n ≡ length (segment_held N.one) = e ∙ N.size in
      rw z (going_next g N (rw (joined_snoc segment_stored g.done N.one) (laid_next g.holds (segment_laid g e h))))

pub segments_end : {s : List ℕ} {a : ℕ} {before now : List ℕ} {p at : ℕ} → SegmentsGoing s a before p now at → (p < length s → get_or s p 0 ≡ 6 → ⊥)
    → SegmentsWritten s a before now (record { next = p; bytes = at })
segments_end G k = record { is = λ gs rest x. going_ends (G gs rest x) k }
