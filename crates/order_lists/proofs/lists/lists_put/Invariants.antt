-- List by list. The invariant holds of whatever lists the block has: those after the order are put so far, the others are to come; and
-- `named` is the next line that is the higher one of a word.
use mathlib.Core.Path.{◌≡◌}
use Prim.Native.Nat.{◌≤◌}
use lib.ListN.{length}
use Rattle.order_words.specs.Looked.{NextHigh}
use Rattle.order_lists.proofs.Laws.ListsPut.{PutAll}
use Rattle.order_lists.proofs.lists.lists_put.Given as goal

abbrev pub invariant-loop-l : goal.invariant-loop-l
invariant-loop-l l = (l.lists ≤ l.l) × (length l.out ≡ length l.initial.out) × NextHigh l.words l.l l.named × PutAll l.w l.block l.words l.removal l.width l.lines l.l l.p l.lists l.initial.out l.out l.q
