-- Line by line. The invariant holds of whatever lines the block has: those that stay are put so far, the others are to come.
use native.Mathlib.Omega.{arith}
use mathlib.Core.Bool.{not}
use mathlib.Core.Path.{refl, sym, ap, ◌∙◌}
use Prim.Native.Nat.{◌+◌, ◌*◌, ◌≤◌}
use lib.ListN.{length}
use Rattle.bits.specs.Bits.{Bits}
use Rattle.orders.specs.Listed.{removal_lines}
use Rattle.format.specs.Line.{FitsLine, line}
use Rattle.order_removal.proofs.Laws.Going.{Turn, turn}
use Rattle.order_lines.proofs.Laws.Each.{same, Stand, Ends, first_within, ToPut, next_gone, next_room, next_put}
use Rattle.order_lines.proofs.Laws.Lines.{line_reads, line_ends, kept_bits, block_room, put_first, put_done}
use Rattle.order_lines.proofs.Laws.Copy.{copied_few}
use Rattle.order_lines.proofs.lines_put.Goals as goal
use Rattle.order_lines.proofs.lines_put.Goals.{In-loop-l, After-line_end-p, then-is_err, else-is_err}

next : (c : In-loop-l) → Turn same (removal_lines c.args.removal.now) c.args.count (Stand (line c.args.w).enc (FitsLine c.args.w) c.args.block.now c.requires.there.behind) (ToPut (line c.args.w).enc (kept_bits c.args.w c.args.removal.now c.requires.there.value) c.args.out.now 0 c.loop-l.out c.loop-l.q) c.loop-l.l c.loop-l.p
next c = let p = c.requires.there in turn (c.loop-l.invariant.3 p.value p.behind p.at p.counts) c.loop-l-test.true

end : (c : After-line_end-p) (u : Bits) → Ends (line c.args.w).enc (FitsLine c.args.w) c.args.block.now u c.loop-l.p c.line_end-p.result
end c u = line_ends c.args.w c.args.block.now c.loop-l.p u c.line_end-p.ensures

ends : (c : After-line_end-p) → (c.loop-l.p ≤ c.line_end-p.result) × (c.line_end-p.result ≤ 8 * length c.args.block.now)
ends c =
    let p = c.requires.there in
    let x = turn (c.loop-l.invariant.3 p.value p.behind p.at p.counts) c.loop-l-test.true in
    let z = end c p.behind x.value x.others x.at in
    (omega (arith, z), omega (arith, z, first_within x.at))

pub loop-l-init : goal.loop-l-init
loop-l-init c =
    (refl, omega arith, omega arith, put_first c.args.w c.args.block.now c.args.removal.now c.args.count c.args.out.now)

pub line_end-p-requires : goal.line_end-p-requires
line_end-p-requires c =
    let p = c.requires.there in
    let x = next (goal.at.line_end-p-requires c).In-loop-l in
    record { narrow = p.narrow; short = p.short; value = x.value; behind = c.loop-l.p + length ((line c.args.w).enc x.value); reads = line_reads c.args.w c.args.block.now c.loop-l.p x.value x.others x.at }

pub copy_bits-q-requires : goal.copy_bits-q-requires
copy_bits-q-requires c =
    let p = c.requires in
    let h = p.there in
    let z = sym c.rank_of.ensures.gone ∙ c.is_err.ensures.negation ∙ ap not c.if-is_err.true in
    next_room c.loop-l-test.true (end (goal.at.copy_bits-q-requires c).After-line_end-p h.behind) (c.loop-l.invariant.3 h.value h.behind h.at h.counts) z h.short (block_room c.args.w c.args.removal.now h.value p.room) c.loop-l.invariant.1

pub loop-l-preserved : goal.loop-l-preserved
loop-l-preserved c =
    let here = (goal.at.loop-l-preserved c).After-line_end-p in
    let z = sym c.rank_of.ensures.gone ∙ c.is_err.ensures.negation in
    elim c.if-is_err.branch [
      | then-is_err w ↦ rw (w.out-is, w.q-is) (w.copy_bits-q.ensures.same ∙ c.loop-l.invariant.0, omega (arith, copied_few c.args.block.now c.loop-l.p c.line_end-p.result w.copy_bits-q.ensures, c.loop-l.invariant.1, (ends here).0), (ends here).1, λ ls u a n. next_put c.loop-l-test.true (end here u) (c.loop-l.invariant.3 ls u a n) (z ∙ ap not w.if-is_err.true) w.copy_bits-q.ensures)
      | else-is_err w ↦ rw (w.out-is, w.q-is) (c.loop-l.invariant.0, omega (arith, c.loop-l.invariant.1, (ends here).0), (ends here).1, λ ls u a n. next_gone c.loop-l-test.true (end here u) (c.loop-l.invariant.3 ls u a n) (z ∙ ap not w.if-is_err.false))
    ]

pub overflow_add-result : goal.overflow_add-result
overflow_add-result c =
    omega (arith, c.loop-l.invariant.1, c.loop-l.invariant.2, c.requires.there.short)

pub returns : goal.returns
returns c =
    put_done c.args.w c.args.block.now c.args.removal.now c.args.count (omega (arith, c.loop-l-test.false)) c.loop-l.invariant.3
