-- The invariant: what is left of the walk draws the same elements.
use Rattle.std.proofs.Common.{◌≡◌}
use Rattle.trail_steps.specs.Elements.{elements, Ready}
use Rattle.trail_steps.proofs.CodeWalkIterator.next.Given as goal

abbrev pub invariant-loop-self : goal.invariant-loop-self
invariant-loop-self l = Ready l.self × (elements l.self ≡ elements l.initial.self)

abbrev pub decreases-loop-self : goal.decreases-loop-self
decreases-loop-self l = l.self.left
