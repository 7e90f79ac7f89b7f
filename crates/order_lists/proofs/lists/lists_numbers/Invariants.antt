-- List by list. The invariant holds of whatever lists the block has: those after the order are measured so far, the others are to come;
-- and `named` is the next line that is the higher one of a word.
use Prim.Native.Nat.{◌*◌, ◌≤◌}
use Rattle.order_words.specs.Looked.{NextHigh}
use Rattle.order_lists.proofs.Laws.Lists.{GoingAll}
use Rattle.order_lists.proofs.lists.lists_numbers.Given as goal

abbrev pub invariant-loop-l : goal.invariant-loop-l
invariant-loop-l l = (l.lists ≤ l.l) × (l.entries ≤ 1025 * l.lists) × NextHigh l.words l.l l.named × GoingAll l.w l.block l.words l.removal l.lines l.l l.p l.lists l.entries l.most
