-- The view and its index, the order's lines, and then the list of one order on it.
use Rattle.std.proofs.lemmas.Result.{err_from_is_err_and}
use Rattle.outcome.proofs.Laws.{answer_refused}
use Rattle.ordering.proofs.Laws.Pairs.{there, no_line, one_there, one_done}
use Rattle.ordering.proofs.paired.Goals as goal

pub returns-in_err-site : goal.returns-in_err-site
returns-in_err-site c =
    let p = err_from_is_err_and c.from_residual.result c.from_residual.ensures.1 in
    rw (p.1, p.2) (answer_refused (λ xs. xs) _ c.args.out.now (c.in_err-site.ensures.pair c.args.a c.args.b c.args.joins))

pub returns-then-count-a : goal.returns-then-count-a
returns-then-count-a c =
    let F = c.in_ok-site.ensures in
    rw c.into.ensures (answer_refused (λ xs. xs) _ c.args.out.now (no_line F.0 c.args.a c.args.b c.args.joins F.1 c.then-count-a.either))

pub one_word-word-requires : goal.one_word-word-requires
one_word-word-requires c =
    one_there c.in_ok-site.ensures.0 c.args.a c.args.b c.args.joins c.if-count-a.false c.if-count-b.false

pub pairs_at-requires : goal.pairs_at-requires
pairs_at-requires c =
    there c.in_ok-site.ensures.0 c.in_ok-site.ensures.1 c.one_word-word.ensures.shape

pub returns : goal.returns
returns c =
    one_done c.in_ok-site.ensures.0 c.args.a c.args.b c.args.joins c.one_word-word.ensures c.pairs_at.ensures
