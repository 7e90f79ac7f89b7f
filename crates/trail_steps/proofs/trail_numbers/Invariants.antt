-- The invariant: the elements that have come are laid, and with those of the walk that are still to come they are all.
use Rattle.trail_steps.specs.Elements.{elements, Ready}
use Rattle.trail_steps.proofs.Laws.{Laying}
use Rattle.trail_steps.proofs.trail_numbers.Given as goal

abbrev pub invariant-loop-element : goal.invariant-loop-element
invariant-loop-element l = Ready l.element-iterator × Laying (λ xs. xs) (elements l.fn.walk) (elements l.element-iterator) l.initial.out l.out l.at
