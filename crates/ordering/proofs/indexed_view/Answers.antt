-- The view, and then its index.
use Rattle.std.proofs.lemmas.Result.{err_from_is_err_and}
use Rattle.ordering.proofs.Laws.Pairs.{not_there, without_index}
use Rattle.ordering.proofs.indexed_view.Goals as goal

pub returns-in_err-site : goal.returns-in_err-site
returns-in_err-site c =
    let p = err_from_is_err_and c.from_residual.result c.from_residual.ensures.1 in
    rw (p.1, p.2) (not_there c.in_err-site.ensures)

pub returns-then-site : goal.returns-then-site
returns-then-site c =
    rw c.into.ensures (without_index c.in_ok-site.ensures c.if-site.true)

pub returns : goal.returns
returns c =
    (c.in_ok-site.ensures, c.if-site.false)
