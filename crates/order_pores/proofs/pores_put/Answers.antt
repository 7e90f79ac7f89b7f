-- Line by line. The invariant holds of whatever pores the payload says: those of the lines that stay are put so far, the others are to come.
use native.Mathlib.Omega.{arith}
use mathlib.Core.Bool.{not}
use mathlib.Core.Path.{◌≡◌, refl, sym, ap, subst, ◌∙◌}
use lib.ListN.{length}
use Rattle.std.specs.Prelude.{Option}
use Rattle.outcome.specs.Refusals.{bad_pores}
use Rattle.pores_lines.specs.Found.{LineStands, LineFound}
use Rattle.pores_lines.specs.declared.PoreLine.{PoreLine}
use Rattle.pores_parts.specs.Parts.{Pores}
use Rattle.order_removal.proofs.Laws.Going.{turn}
use Rattle.order_lines.proofs.Laws.Copy.{copied_few}
use Rattle.order_lines.proofs.Laws.Each.{next_gone, next_room, next_put}
use Rattle.order_pores.proofs.Laws.{fits, three_bytes, e_is, ahead_room, ahead_put, line_ends, found_there, put_first, kept_room, put_done}
use Rattle.order_pores.proofs.pores_put.Goals as goal
use Rattle.order_pores.proofs.pores_put.Goals.{After-copy_bits-q, After-unwrap-p, then-is_err, else-is_err}

put_ahead : (c : After-copy_bits-q) → (length c.copy_bits-q.new.out ≡ length c.args.out.now) × (c.copy_bits-q.result ≡ 24)
put_ahead c = let p = c.requires.there in ahead_put c.args.lines c.args.payload.now p.value p.says c.copy_bits-q.ensures

stands : (c : After-unwrap-p) → LineStands c.args.payload.now c.loop-line.p c.sure-e.result.value c.unwrap-p.result.count c.unwrap-p.result.next
stands c = subst (λ (r : Option PoreLine). LineFound c.args.payload.now c.loop-line.p c.sure-e.result.value r) c.unwrap-p.ensures c.line_at.ensures

pub sure-e-requires : goal.sure-e-requires
sure-e-requires c =
    let p = c.requires.there in
    (p.short, omega arith, omega (arith, three_bytes c.args.lines c.args.payload.now p.value p.says))

pub copy_bits-q-requires : goal.copy_bits-q-requires
copy_bits-q-requires c =
    let p = c.requires.there in
    record {
      short = p.short;
      order = omega arith;
      there = three_bytes c.args.lines c.args.payload.now p.value p.says;
      room = record { room = ahead_room c.args.lines c.args.payload.now p.value p.says c.args.removal.now c.requires.room; near = omega arith };
    }

pub loop-line-init : goal.loop-line-init
loop-line-init c =
    let p = c.requires.there in
    (refl, omega (arith, (put_ahead (goal.at.loop-line-init c).After-copy_bits-q).1), three_bytes c.args.lines c.args.payload.now p.value p.says, put_first c.args.payload.now c.args.lines c.args.removal.now (c.sure-e.ensures.0 bad_pores) _ _)

pub line_at-requires : goal.line_at-requires
line_at-requires c =
    let p = c.requires.there in
    let f = fits c.args.lines c.args.payload.now p.value p.says in
    let z = e_is c.args.lines c.args.payload.now p.value p.says (c.sure-e.ensures.0 bad_pores) in
    record { short = p.short; low = omega (arith, z, f.low); high = omega (arith, z, f.high); within = c.loop-line.invariant.2 }

pub unwrap-p-requires : goal.unwrap-p-requires
unwrap-p-requires c =
    let p = c.requires.there in
    let t = turn (c.loop-line.invariant.3 p.value p.says) c.loop-line-test.true in
    found_there c.args.payload.now c.loop-line.p c.sure-e.result.value p.value t.value t.others t.at _ c.line_at.ensures

pub copy_bits-q-requires-then-is_err : goal.copy_bits-q-requires-then-is_err
copy_bits-q-requires-then-is_err c =
    let p = c.requires.there in
    let a = put_ahead (goal.at.copy_bits-q-requires-then-is_err c).After-copy_bits-q in
    let r = kept_room c.args.payload.now c.args.lines c.args.removal.now (c.sure-e.ensures.0 bad_pores) p.value p.says c.requires.room in
    let L = stands (goal.at.copy_bits-q-requires-then-is_err c).After-unwrap-p in
    next_room c.loop-line-test.true (line_ends c.args.payload.now c.loop-line.p c.sure-e.result.value p.value L) (c.loop-line.invariant.3 p.value p.says) (sym c.rank_of.ensures.gone ∙ c.is_err.ensures.negation ∙ ap not c.if-is_err.true) p.short (omega (arith, r, a)) c.loop-line.invariant.1

pub loop-line-preserved : goal.loop-line-preserved
loop-line-preserved c =
    let L = stands (goal.at.loop-line-preserved c).After-unwrap-p in
    let z = sym c.rank_of.ensures.gone ∙ c.is_err.ensures.negation in
    let ends = λ (v : Pores). line_ends c.args.payload.now c.loop-line.p c.sure-e.result.value v L in
    elim c.if-is_err.branch [
      | then-is_err w ↦ rw (w.out-is, w.q-is) (w.copy_bits-q-then-is_err.ensures.same ∙ c.loop-line.invariant.0, omega (arith, copied_few c.args.payload.now c.loop-line.p c.unwrap-p.result.next w.copy_bits-q-then-is_err.ensures, c.loop-line.invariant.1, L.after), L.within, λ v h. next_put c.loop-line-test.true (ends v) (c.loop-line.invariant.3 v h) (z ∙ ap not w.if-is_err.true) w.copy_bits-q-then-is_err.ensures)
      | else-is_err w ↦ rw (w.out-is, w.q-is) (c.loop-line.invariant.0, omega (arith, c.loop-line.invariant.1, L.after), L.within, λ v h. next_gone c.loop-line-test.true (ends v) (c.loop-line.invariant.3 v h) (z ∙ ap not w.if-is_err.false))
    ]

pub returns : goal.returns
returns c =
    put_done c.args.payload.now c.args.lines c.args.removal.now (c.sure-e.ensures.0 bad_pores) (omega (arith, c.loop-line-test.false)) c.copy_bits-q.ensures c.loop-line.invariant.3
