-- The parts before the payload, one behind the other.
use Rattle.put_bytes.proofs.Laws.{laid_next}
use Rattle.rewrite_put.proofs.front_put.Goals as goal

pub returns : goal.returns
returns c =
    laid_next (laid_next (laid_next c.head_put-at.ensures c.put_two-at.ensures) c.copy-at.ensures) c.put_two-at-2.ensures
