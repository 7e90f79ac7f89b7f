-- Line by line. The invariant holds of whatever pores the payload says: those of the lines that stay are counted so far, the others are to come.
use native.Mathlib.Omega.{arith}
use mathlib.Core.Bool.{not}
use mathlib.Core.Path.{sym, ap, subst, ◌∙◌}
use Rattle.std.specs.Prelude.{Option}
use Rattle.outcome.specs.Refusals.{bad_pores}
use Rattle.pores_lines.specs.Found.{LineStands, LineFound}
use Rattle.pores_lines.specs.declared.PoreLine.{PoreLine}
use Rattle.pores_parts.specs.Parts.{Pores}
use Rattle.order_removal.proofs.Laws.Going.{turn}
use Rattle.order_lines.proofs.Laws.Each.{next_gone, next_sized}
use Rattle.order_pores.proofs.Laws.{fits, three_bytes, e_is, line_ends, found_there, sizing_first, sized}
use Rattle.order_pores.proofs.pores_size.Goals as goal
use Rattle.order_pores.proofs.pores_size.Goals.{After-unwrap-p, then-is_err, else-is_err}

stands : (c : After-unwrap-p) → LineStands c.args.payload.now c.loop-l.p c.sure-e.result.value c.unwrap-p.result.count c.unwrap-p.result.next
stands c = subst (λ (r : Option PoreLine). LineFound c.args.payload.now c.loop-l.p c.sure-e.result.value r) c.unwrap-p.ensures c.line_at.ensures

pub sure-e-requires : goal.sure-e-requires
sure-e-requires c =
    let p = c.requires in
    (p.short, omega arith, omega (arith, three_bytes c.args.lines c.args.payload.now p.value p.says))

pub loop-l-init : goal.loop-l-init
loop-l-init c =
    let p = c.requires in
    (omega arith, three_bytes c.args.lines c.args.payload.now p.value p.says, sizing_first c.args.payload.now c.args.lines c.args.removal.now (c.sure-e.ensures.0 bad_pores))

pub line_at-requires : goal.line_at-requires
line_at-requires c =
    let p = c.requires in
    let f = fits c.args.lines c.args.payload.now p.value p.says in
    let z = e_is c.args.lines c.args.payload.now p.value p.says (c.sure-e.ensures.0 bad_pores) in
    record { short = p.short; low = omega (arith, z, f.low); high = omega (arith, z, f.high); within = c.loop-l.invariant.1 }

pub unwrap-p-requires : goal.unwrap-p-requires
unwrap-p-requires c =
    let p = c.requires in
    let t = turn (c.loop-l.invariant.2 p.value p.says) c.loop-l-test.true in
    found_there c.args.payload.now c.loop-l.p c.sure-e.result.value p.value t.value t.others t.at _ c.line_at.ensures

pub loop-l-preserved : goal.loop-l-preserved
loop-l-preserved c =
    let L = stands (goal.at.loop-l-preserved c).After-unwrap-p in
    let z = sym c.rank_of.ensures.gone ∙ c.is_err.ensures.negation in
    let ends = λ (v : Pores). line_ends c.args.payload.now c.loop-l.p c.sure-e.result.value v L in
    elim c.if-is_err.branch [
      | then-is_err w ↦ rw w.bits-is (omega (arith, c.loop-l.invariant.0, L.after), L.within, λ v h. next_sized c.loop-l-test.true (ends v) (c.loop-l.invariant.2 v h) (z ∙ ap not w.if-is_err.true))
      | else-is_err w ↦ rw w.bits-is (omega (arith, c.loop-l.invariant.0, L.after), L.within, λ v h. next_gone c.loop-l-test.true (ends v) (c.loop-l.invariant.2 v h) (z ∙ ap not w.if-is_err.false))
    ]

pub returns : goal.returns
returns c =
    sized c.args.payload.now c.args.lines c.args.removal.now (c.sure-e.ensures.0 bad_pores) (omega (arith, c.loop-l-test.false)) c.loop-l.invariant.2
