-- Word by word. The loop's invariant: none of those passed is about the line and one from the bound on.
use mathlib.Core.Path.{◌∙◌}
use native.Mathlib.Omega.{arith}
use Rattle.order_words.proofs.Laws.Bound.{bounding_start, bounding_other, bounding_above, bounding_raised, bounding_done}
use Rattle.order_words.proofs.low_bound.Goals as goal
use Rattle.order_words.proofs.low_bound.Goals.{then-pair-high+then-pair-before, else-pair-high, else-pair-high-via-then-pair-high+else-pair-before, else-pair-high-via-else-pair-high}

pub loop-i-init : goal.loop-i-init
loop-i-init c =
    bounding_start

pub loop-i-preserved : goal.loop-i-preserved
loop-i-preserved c =
    elim c.if-pair-high.branch [
      | then-pair-high+then-pair-before w ↦ bounding_raised c.loop-i.invariant c.requires c.pair_at-pair.ensures (w.bound-is ∙ w.max-bound.ensures) w.if-pair-before.true
      | else-pair-high w ↦ rw w.bound-is (elim w.else-pair-high.branch [
        | else-pair-high-via-then-pair-high+else-pair-before v ↦ bounding_above c.loop-i.invariant c.requires c.pair_at-pair.ensures v.if-pair-before.false
        | else-pair-high-via-else-pair-high v ↦ bounding_other c.loop-i.invariant c.requires c.pair_at-pair.ensures v.if-pair-high.false
      ])
    ]

pub returns : goal.returns
returns c =
    bounding_done c.loop-i.invariant (omega arith)
