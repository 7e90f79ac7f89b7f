-- The header, the value, and the length of no segments.
use Rattle.put_bytes.proofs.Laws.{laid_next}
use Rattle.card_reading.proofs.record_put.Goals as goal

pub returns : goal.returns
returns c =
    laid_next (laid_next c.head_put-at.ensures c.copy-at.ensures) c.put_two-at.ensures
