-- One loop goes over the lists, the other over a list's differences. From the cursor on, what a loop carries gives what all of its values
-- give from their first on, so that what stops it is what the whole block is refused for. A list has at most 65,535 numbers, 131,073
-- bytes in the sheet, so `size` stays small.
use Rattle.judge_blocks.proofs.Laws.Index.{Listed, Differing}
use Rattle.judge_blocks.proofs.index.judge_index.Given as goal

abbrev pub invariant-loop : goal.invariant-loop
invariant-loop l = Differing l.block l.width.value l.l l.count.value l.count.next.at l.counter l.least l.most l.p.at

abbrev pub invariant-loop-l : goal.invariant-loop-l
invariant-loop-l l = Listed l.lines l.block l.width.value l.width.next.at l.size l.l l.p.at
