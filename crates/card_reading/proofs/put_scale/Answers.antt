-- A byte and three pairs, one behind the other.
use Rattle.put_bytes.proofs.Laws.{laid_next}
use Rattle.card_reading.proofs.Laws.{pairs_laid}
use Rattle.card_reading.proofs.put_scale.Goals as goal

pub returns : goal.returns
returns c =
    pairs_laid c.requires.1 (laid_next (laid_next c.put_three-at.ensures c.put_two-at.ensures) c.put_two-at-2.ensures)
