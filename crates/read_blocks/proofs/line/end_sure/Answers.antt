-- Four fields, one behind the other.
use Rattle.outcome.specs.Refusals.{bad_line}
use Rattle.read_blocks.proofs.Laws.Line.{end_is}
use Rattle.read_blocks.proofs.line.end_sure.Goals as goal

pub returns : goal.returns
returns c =
    let kind = c.sure-kind.ensures.0 bad_line in
    let direction = c.sure-direction.ensures.0 bad_line in
    let x = c.sure-x.ensures.0 bad_line in
    let y = c.sure-y.ensures.0 bad_line in
    end_is c.args.w kind direction x y
