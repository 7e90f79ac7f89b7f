-- The view and its index, the list's shape, and then the orders of the list on it.
use mathlib.Core.Path.{sym, ◌∙◌}
use Rattle.std.proofs.lemmas.Result.{err_from_is_err_and}
use Rattle.outcome.proofs.Laws.{answer_refused}
use Rattle.ordering.proofs.Laws.Pairs.{there, pairs_no_shape, pairs_done}
use Rattle.ordering.proofs.listed.Goals as goal

pub returns-in_err-site : goal.returns-in_err-site
returns-in_err-site c =
    let p = err_from_is_err_and c.from_residual.result c.from_residual.ensures.1 in
    rw (p.1, p.2) (answer_refused (λ xs. xs) _ c.args.out.now (c.in_err-site.ensures.pairs c.args.list.now c.args.out.now))

pub returns-then-not-shape_right : goal.returns-then-not-shape_right
returns-then-not-shape_right c =
    let F = c.in_ok-site.ensures in
    rw c.into.ensures (answer_refused (λ xs. xs) _ c.args.out.now (pairs_no_shape F.0 c.args.list.now c.args.out.now F.1 (rw (sym c.shape_right.ensures ∙ c.if-not-shape_right.true) tt)))

pub pairs_at-requires : goal.pairs_at-requires
pairs_at-requires c =
    there c.in_ok-site.ensures.0 c.in_ok-site.ensures.1 (rw (sym c.shape_right.ensures ∙ c.if-not-shape_right.false) tt)

pub returns : goal.returns
returns c =
    let F = c.in_ok-site.ensures in
    pairs_done F.0 c.args.list.now c.args.out.now F.1 (rw (sym c.shape_right.ensures ∙ c.if-not-shape_right.false) tt) c.pairs_at.ensures
