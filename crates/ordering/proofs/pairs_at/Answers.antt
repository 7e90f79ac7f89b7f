-- The list judged, and then carried out.
use Rattle.std.proofs.lemmas.Result.{err_from_is_err_and}
use Rattle.ordering.proofs.Laws.Pairs.{list_there, list_refused, list_placed, list_done}
use Rattle.ordering.proofs.pairs_at.Goals as goal

pub judge_list-requires : goal.judge_list-requires
judge_list-requires c =
    list_there c.requires

pub returns-in_err-last : goal.returns-in_err-last
returns-in_err-last c =
    let p = err_from_is_err_and c.from_residual.result c.from_residual.ensures.1 in
    rw (p.1, p.2) (list_refused c.requires c.in_err-last.ensures)

pub carry_out-requires : goal.carry_out-requires
carry_out-requires c =
    list_placed c.requires c.in_ok-last.ensures

pub returns : goal.returns
returns c =
    list_done c.requires c.in_ok-last.ensures c.carry_out.ensures
