-- View by view. The invariant is where the next one starts.
use Rattle.find_parts.proofs.Laws.Views.{Sought}
use Rattle.list_text.specs.Views.{ViewsToList}
use Rattle.list_text.proofs.view_lines.Given as goal

abbrev pub invariant-loop-i : goal.invariant-loop-i
invariant-loop-i g l = (there : ViewsToList l.w l.count l.bytes) × Sought there.value l.bytes l.i l.a
