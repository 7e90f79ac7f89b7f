-- Three loops, in each other: over the views, over the lines of a view's skeleton block, over 128 codes of a line at a time.
use Prim.Native.Nat.{◌-◌, ◌+◌, ◌*◌, ◌≤◌}
use mathlib.Core.Path.{◌≡◌}
use lib.ListN.{length}
use Rattle.judge_views.proofs.Laws.Line.{Lines}
use Rattle.judge_views.proofs.Laws.View.{Views}
use Rattle.judge_views.proofs.judge_views.Given as goal

abbrev pub invariant-loop-left : goal.invariant-loop-left
invariant-loop-left l = (l.left ≤ l.stated.value) × (l.p.at ≤ 8 * length l.block) × (l.p.at + l.left * l.w.k ≡ l.stated.next.at + l.stated.value * l.w.k)

abbrev pub decreases-loop-left : goal.decreases-loop-left
decreases-loop-left l = l.left

abbrev pub invariant-loop-p : goal.invariant-loop-p
invariant-loop-p l = Lines l.w l.block l.n l.lines l.p.at

abbrev pub decreases-loop-p : goal.decreases-loop-p
decreases-loop-p l = 1024 - l.n

abbrev pub invariant-loop : goal.invariant-loop
invariant-loop l = Views l.w l.count l.bytes l.seen l.counter l.size l.a
