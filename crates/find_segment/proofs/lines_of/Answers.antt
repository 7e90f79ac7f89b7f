-- Its lines are passed, and counted on the way.
use Rattle.find_segment.proofs.Laws.{view_lines, lines_are}
use Rattle.find_segment.proofs.lines_of.Goals as goal

pub pass_lines-passed-requires : goal.pass_lines-passed-requires
pass_lines-passed-requires c = view_lines c.requires

pub returns : goal.returns
returns c = lines_are c.pass_lines-passed.ensures
