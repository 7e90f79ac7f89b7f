-- Word by word. The loop's invariant: none of those passed has its higher line from `from` on and before the next one so far.
use native.Mathlib.Omega.{arith}
use Rattle.order_words.proofs.Laws.Bound.{seeking_start, seeking_before, seeking_first, seeking_lower, seeking_done}
use Rattle.order_words.proofs.next_high.Goals as goal
use Rattle.order_words.proofs.next_high.Goals.{then-from-high+in-Some, then-from-high+in-None, else-from-high}

pub loop-i-init : goal.loop-i-init
loop-i-init c =
    seeking_start

pub loop-i-preserved : goal.loop-i-preserved
loop-i-preserved c =
    elim c.if-from-high.branch [
      | then-from-high+in-Some w ↦ rw w.next-is (seeking_lower c.loop-i.invariant c.pair_at-high.ensures w.in-Some.is w.min.ensures w.if-from-high.true)
      | then-from-high+in-None w ↦ rw w.next-is (seeking_first c.loop-i.invariant c.pair_at-high.ensures w.in-None.is w.if-from-high.true)
      | else-from-high w ↦ rw w.next-is (seeking_before c.loop-i.invariant c.pair_at-high.ensures w.if-from-high.false)
    ]

pub returns : goal.returns
returns c =
    seeking_done c.loop-i.invariant (omega arith)
