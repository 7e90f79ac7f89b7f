-- Its parts, one behind the other.
use Rattle.put_bytes.proofs.Laws.{laid_next}
use Rattle.card_reading.proofs.head_put.Goals as goal

pub returns : goal.returns
returns c =
    laid_next (laid_next (laid_next (laid_next c.copy-at.ensures c.put_two-at.ensures) c.copy-at-2.ensures) c.put_scale-at.ensures) c.copy-at-3.ensures
