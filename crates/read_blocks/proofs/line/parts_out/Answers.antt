-- How the field starts, its ends and its codes, each laid where the part before ended.
use Rattle.put_bytes.proofs.Laws.{laid_next}
use Rattle.read_blocks.proofs.Laws.Line.{parts_laid}
use Rattle.read_blocks.proofs.line.parts_out.Goals as goal

pub returns : goal.returns
returns c =
    let head = c.put_three-at.ensures in
    let start = laid_next head c.end_out-at.ensures in
    let finish = laid_next start c.end_out-at-2.ensures in
    parts_laid (λ cs q h. laid_next finish (c.codes_out-at.ensures.1 cs q h))
