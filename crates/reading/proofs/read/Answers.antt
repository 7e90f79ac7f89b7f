-- What is read out, as an answer.
use Rattle.reading.proofs.read.Goals as goal

pub returns : goal.returns
returns c =
    rw c.of.ensures c.read_out.ensures
