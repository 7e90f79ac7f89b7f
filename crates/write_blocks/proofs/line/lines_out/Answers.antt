-- Line by line. The invariant holds of whatever lines the fields are: those passed are put.
use native.Mathlib.Omega.{arith}
use mathlib.Core.Path.{sym, ◌∙◌}
use Rattle.write_blocks.proofs.Laws.Line.{lines_first, lines_next, lines_end, line_here, line_fits, line_held_lem, line_space, lines_near}
use Rattle.write_blocks.proofs.line.lines_out.Goals as goal
use Rattle.write_blocks.proofs.line.lines_out.Goals.{then-loop-next-test+else-wide-eq3, else-loop-next-test}

pub loop-next-init : goal.loop-next-init
loop-next-init c = lines_first c.args.w c.args.sheet.now c.args.a c.args.out.now

pub two_at-requires : goal.two_at-requires
two_at-requires c =
    let pre = c.requires in
    let g = c.loop-next.invariant pre.value pre.rest pre.at in
    let t = sym c.wide.ensures ∙ c.if-wide-eq3.true in
    omega (arith, (line_here c.args.w c.loop-next-test.true t g).there)

pub slice_bounds-line_put-end : goal.slice_bounds-line_put-end
slice_bounds-line_put-end c =
    let pre = c.requires in
    let g = c.loop-next.invariant pre.value pre.rest pre.at in
    let t = sym c.wide.ensures ∙ c.if-wide-eq3.true in
    let n = line_here c.args.w c.loop-next-test.true t g in
    omega (arith, n.there, n.size, c.two_at.ensures)

pub line_put-at-requires : goal.line_put-at-requires
line_put-at-requires c =
    let pre = c.requires in
    let g = c.loop-next.invariant pre.value pre.rest pre.at in
    let t = sym c.wide.ensures ∙ c.if-wide-eq3.true in
    let w = c.args.w in
    let l = c.loop-next-test.true in
    record {
      narrow = pre.narrow;
      value = (line_here w l t g).one;
      fits = line_fits w l t g;
      held = line_held_lem w l t g c.two_at.ensures;
      room = line_space w l t g pre.room c.loop-next.auto.out;
    }

pub overflow_add-count : goal.overflow_add-count
overflow_add-count c =
    let pre = c.requires in
    let (a, b) = lines_near c.args.w (c.loop-next.invariant pre.value pre.rest pre.at) pre.room in omega (arith, a, b)

pub loop-next-preserved : goal.loop-next-preserved
loop-next-preserved c = lines_next c.args.w c.loop-next-test.true (sym c.wide.ensures ∙ c.if-wide-eq3.true) c.loop-next.invariant c.two_at.ensures c.line_put-at.ensures

pub overflow_add-result : goal.overflow_add-result
overflow_add-result c =
    let pre = c.requires in
    let (a, b) = lines_near c.args.w (c.loop-next.invariant pre.value pre.rest pre.at) pre.room in omega (arith, b)

pub returns : goal.returns
returns c =
    let G = c.loop-next.invariant in
    elim c.loop-next-test.branch [
      | then-loop-next-test+else-wide-eq3 w ↦ lines_end c.args.w G (λ l t. w.if-wide-eq3.false (w.wide.ensures ∙ t))
      | else-loop-next-test w ↦ lines_end c.args.w G (λ l t. absurd (omega (arith, w.loop-next-test.false)))
    ]
