-- Segment by segment; the invariant is what is laid and what is still read.
use native.Mathlib.Omega.{arith}
use mathlib.Core.Path.{◌≡◌, refl, ap}
use Prim.Native.Nat.{ℕ, ◌*◌, ◌<◌}
use mathlib.Core.List.{List}
use lib.ListN.{length, drop, length-take, length-drop}
use Rattle.std.proofs.Common.{Fits, w8, get_or}
use Rattle.bits.specs.Bits.{Bits}
use Rattle.bits.specs.Bytes.{bits_of}
use Rattle.bits.specs.Block.{fill_dec}
use Rattle.bits.specs.Codec.{got}
use Rattle.bits.specs.Lists.{total}
use Rattle.bits.proofs.Laws.Place.{all_bytes}
use Rattle.bits.proofs.Laws.Loops.{fill_done}
use Rattle.bits.proofs.Laws.Parts.{drop_end}
use Rattle.outcome.specs.Refusals.{bad_segment}
use Rattle.format.specs.Segments.{Segment, segment, segments}
use Rattle.format.specs.SheetSize.{segment_size}
use Rattle.sheet_bytes.specs.Bytes.{segment_bytes}
use Rattle.read_blocks.proofs.Laws.Underway.{at_first, same_room, one_more, at_last}
use Rattle.find_parts.proofs.Laws.Segments.{SegmentAt, segment_at_lem, its_length}
use Rattle.read_blocks.proofs.Laws.Segments.{its_field}
use Rattle.read_blocks.proofs.segments.segments_out.Goals as goal

-- the segment that starts at a
here : (s : List ℕ) (a k : ℕ) {gs : List Segment} {u : Bits} → ((i : ℕ) → Fits w8 (get_or s i 0)) → a < length s → fill_dec segment bad_segment k (drop (8 * a) (bits_of s)) ≡ got gs u
    → SegmentAt s a gs u
here s a k f l h = segment_at_lem s a k (all_bytes s (λ i. (f i).fits)) l h

pub loop-a-init : goal.loop-a-init
unfolding segments
loop-a-init c =
    let there = c.requires in
    (omega arith, refl, (length (bits_of c.args.block.now), at_first segment_bytes segment_size there.reads there.room))

pub sure-n-requires : goal.sure-n-requires
sure-n-requires c =
    let (k, U) = c.loop-a.invariant.2 in
    let t = here c.args.block.now c.loop-a.a k c.type_inv.block c.loop-a-test.true U.next in
    (c.requires.short, omega arith, omega (arith, t.there.within))

pub segment_out-at-requires : goal.segment_out-at-requires
segment_out-at-requires c =
    let (k, U) = c.loop-a.invariant.2 in
    let t = here c.args.block.now c.loop-a.a k c.type_inv.block c.loop-a-test.true U.next in
    let n = its_length t (c.sure-n.ensures.0 bad_segment) in
    simp (length-take, length-drop) (omega (arith, n, t.there.within, t.small, U.laying.room, ap (total segment_size) t.is))

pub overflow_add-a-in-loop-a : goal.overflow_add-a-in-loop-a
overflow_add-a-in-loop-a c =
    let (k, U) = c.loop-a.invariant.2 in
    let t = here c.args.block.now c.loop-a.a k c.type_inv.block c.loop-a-test.true U.next in
    omega (arith, its_length t (c.sure-n.ensures.0 bad_segment), t.there.within, c.requires.short)

pub loop-a-smaller : goal.loop-a-smaller
loop-a-smaller c =
    let (k, U) = c.loop-a.invariant.2 in
    let t = here c.args.block.now c.loop-a.a k c.type_inv.block c.loop-a-test.true U.next in
    omega (arith, its_length t (c.sure-n.ensures.0 bad_segment), c.loop-a-test.true)

pub loop-a-preserved : goal.loop-a-preserved
loop-a-preserved c =
    let (k, U) = c.loop-a.invariant.2 in
    let t = here c.args.block.now c.loop-a.a k c.type_inv.block c.loop-a-test.true U.next in
    let n = its_length t (c.sure-n.ensures.0 bad_segment) in
    let laid = rw (its_field t _ n) at c.segment_out-at.ensures in
    let V = one_more segment_bytes segment_size U t.is (rw (← n) at t.next) (omega arith) laid in
    (omega (arith, n, t.there.within), same_room segment_bytes segment_size V, (t.fuel, V))

pub returns : goal.returns
returns c =
    let l = c.loop-a in
    let (k, U) = l.invariant.2 in
    let end = drop_end c.args.block.now (8 * l.a) (omega arith) in
    let done = at_last segment_bytes segment_size U (fill_done segment bad_segment k _ end) in
    record { is = λ gs u e. let d : gs ≡ U.all = cc (e, done.0) in rw d done.1 }
