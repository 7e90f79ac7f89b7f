-- Line by line. The invariant is which lines are left, whatever lines the block has.
use Rattle.find_parts.proofs.Laws.Lines.{Past}
use Rattle.find_parts.proofs.line.pass_lines.Given as goal

abbrev pub invariant-loop-count : goal.invariant-loop-count
invariant-loop-count l = Past l.w l.block l.count l.next
