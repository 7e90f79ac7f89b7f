-- Segment by segment. The invariant holds of whatever segments the fields are: those passed are laid.
use native.Mathlib.Omega.{arith}
use mathlib.Core.Path.{sym, ◌∙◌}
use lib.ListN.{length-take, length-drop}
use Rattle.write_blocks.proofs.Laws.Segments.{segments_next, segments_end, segment_here, segment_room, segment_small, segment_long_lem}
use Rattle.write_blocks.proofs.segments.segments_out.Goals as goal

pub two_at-requires : goal.two_at-requires
two_at-requires c =
    let pre = c.requires in
    let g = c.loop-p.invariant pre.value pre.rest pre.at in
    let t = sym c.wide.ensures ∙ c.if-wide-eq6.true in
    omega (arith, (segment_here c.loop-p-test.true t g).there)

pub slice_bounds-segment_out-end-in-loop-p : goal.slice_bounds-segment_out-end-in-loop-p
slice_bounds-segment_out-end-in-loop-p c =
    let pre = c.requires in
    let g = c.loop-p.invariant pre.value pre.rest pre.at in
    let t = sym c.wide.ensures ∙ c.if-wide-eq6.true in
    let n = segment_here c.loop-p-test.true t g in
    omega (arith, n.there, n.size, c.two_at.ensures)

pub segment_out-at-requires : goal.segment_out-at-requires
segment_out-at-requires c =
    let pre = c.requires in
    let g = c.loop-p.invariant pre.value pre.rest pre.at in
    let t = sym c.wide.ensures ∙ c.if-wide-eq6.true in
    let l = c.loop-p-test.true in
    let long = segment_long_lem l t g c.two_at.ensures in
    (omega (arith, long), omega (arith, long, segment_small l t g), simp (length-take, length-drop) (omega (arith, long, segment_room l t g pre.room)))

pub loop-p-preserved : goal.loop-p-preserved
loop-p-preserved c = segments_next c.loop-p-test.true (sym c.wide.ensures ∙ c.if-wide-eq6.true) c.loop-p.invariant c.two_at.ensures c.segment_out-at.ensures

pub returns-else-wide-eq6 : goal.returns-else-wide-eq6
returns-else-wide-eq6 c = segments_end c.loop-p.invariant (λ l t. c.if-wide-eq6.false (c.wide.ensures ∙ t))

pub returns-after-loop-p : goal.returns-after-loop-p
returns-after-loop-p c = segments_end c.loop-p.invariant (λ l t. absurd (omega (arith, c.loop-p-test.false)))
