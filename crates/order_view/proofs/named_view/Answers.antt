-- The view, and then its count.
use Rattle.std.proofs.lemmas.Result.{err_from_is_err_and}
use Rattle.order_view.proofs.Laws.{not_found, site_there, is_named, other_count_lem}
use Rattle.order_view.proofs.named_view.Goals as goal

pub returns-in_err-found : goal.returns-in_err-found
returns-in_err-found c =
    let p = err_from_is_err_and c.from_residual.result c.from_residual.ensures.1 in
    rw (p.1, p.2) (not_found c.args.count c.in_err-found.ensures)

pub site_at-site-requires : goal.site_at-site-requires
site_at-site-requires c =
    site_there c.args.count c.in_ok-found.ensures

pub returns-then-site-count : goal.returns-then-site-count
returns-then-site-count c =
    rw c.into.ensures (other_count_lem c.args.count c.in_ok-found.ensures c.site_at-site.ensures c.if-site-count.true)

pub returns : goal.returns
returns c =
    is_named c.args.count c.in_ok-found.ensures c.site_at-site.ensures c.if-site-count.false
