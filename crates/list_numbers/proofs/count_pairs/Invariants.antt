-- List by list. The invariant is which lists are left, whatever index the block has.
use Rattle.list_numbers.proofs.Laws.Index.{Counted}
use Rattle.list_numbers.proofs.count_pairs.Given as goal

abbrev pub invariant-loop : goal.invariant-loop
invariant-loop l = Counted l.lines l.block l.w l.counter l.at l.pairs
