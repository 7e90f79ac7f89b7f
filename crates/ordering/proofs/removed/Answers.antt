-- The view, then the removal's own tests, then the new record.
use native.Mathlib.Omega.{arith}
use mathlib.Core.Path.{sym, ◌∙◌}
use Rattle.std.proofs.lemmas.Result.{err_from_is_err_and}
use Rattle.outcome.proofs.Laws.{answer_refused}
use Rattle.orders.specs.Listed.{removal_lines}
use Rattle.orders.specs.Act.{remove}
use Rattle.find_parts.proofs.Laws.Blocks.{block_there}
use Rattle.find_parts.proofs.Laws.Record.{record_apart}
use Rattle.ordering.proofs.Laws.View.{counted, few}
use Rattle.ordering.proofs.Laws.Removal.{bad_lines_lem, other_type, bad_pores_lem, removal_placed, removal_done}
use Rattle.ordering.proofs.removed.Goals as goal

pub returns-in_err-site : goal.returns-in_err-site
returns-in_err-site c =
    let p = err_from_is_err_and c.from_residual.result c.from_residual.ensures.1 in
    rw (p.1, p.2) (answer_refused (λ xs. xs) _ c.args.out.now (c.in_err-site.ensures.order (remove (removal_lines c.args.removal.now))))

pub returns-then-not-lines_right : goal.returns-then-not-lines_right
returns-then-not-lines_right c =
    rw c.into.ensures (answer_refused (λ xs. xs) _ c.args.out.now (bad_lines_lem c.in_ok-site.ensures c.args.removal.now (sym c.lines_right.ensures ∙ c.if-not-lines_right.true)))

pub slice_bounds-block-count : goal.slice_bounds-block-count
slice_bounds-block-count c =
    let b = c.in_ok-site.ensures.at.segments in omega (arith, b.from, b.within)

pub slice_bounds-block-start : goal.slice_bounds-block-start
slice_bounds-block-start c =
    let b = c.in_ok-site.ensures.at.segments in omega (arith, b.from, b.within)

pub slice_bounds-block-end : goal.slice_bounds-block-end
slice_bounds-block-end c =
    let b = c.in_ok-site.ensures.at.segments in omega (arith, b.from, b.within)

pub all_carried-requires : goal.all_carried-requires
all_carried-requires c =
    let f = c.in_ok-site.ensures in block_there (record_apart _ f.reads).short f.at.segments

pub returns-then-not-all_carried : goal.returns-then-not-all_carried
returns-then-not-all_carried c =
    let good = sym c.lines_right.ensures ∙ c.if-not-lines_right.false in
    rw c.into-then-not-all_carried.ensures (answer_refused (λ xs. xs) _ c.args.out.now (other_type c.in_ok-site.ensures c.args.removal.now good c.all_carried.ensures c.if-not-all_carried.true))

pub pores_right-requires : goal.pores_right-requires
pores_right-requires c =
    let f = c.in_ok-site.ensures in
    record { block = block_there (record_apart _ f.reads).short f.at.segments; few = omega (arith, few f, counted f) }

pub returns-then-not-pores_right : goal.returns-then-not-pores_right
returns-then-not-pores_right c =
    let good = sym c.lines_right.ensures ∙ c.if-not-lines_right.false in
    rw c.into-then-not-pores_right.ensures (answer_refused (λ xs. xs) _ c.args.out.now (bad_pores_lem c.in_ok-site.ensures c.args.removal.now good c.all_carried.ensures c.if-not-all_carried.false c.pores_right.ensures c.if-not-pores_right.true))

pub carry_out-requires : goal.carry_out-requires
carry_out-requires c =
    let good = sym c.lines_right.ensures ∙ c.if-not-lines_right.false in
    removal_placed c.in_ok-site.ensures c.args.removal.now good c.all_carried.ensures c.if-not-all_carried.false c.pores_right.ensures c.if-not-pores_right.false

pub returns : goal.returns
returns c =
    let good = sym c.lines_right.ensures ∙ c.if-not-lines_right.false in
    removal_done c.in_ok-site.ensures c.args.removal.now good c.all_carried.ensures c.if-not-all_carried.false c.pores_right.ensures c.if-not-pores_right.false c.carry_out.ensures
