-- The invariant is that of trail_numbers, with the bytes of the elements laid. Each goes to the rest of the buffer, lent on.
use Rattle.put_bytes.specs.HighFirst.{two, joined}
use Rattle.trail_steps.specs.Elements.{elements, Ready}
use Rattle.trail_steps.proofs.Laws.{Laying}
use Rattle.trail_steps.proofs.trail_bytes.Given as goal

abbrev pub invariant-loop-element : goal.invariant-loop-element
invariant-loop-element l = Ready l.element-iterator × Laying (joined two) (elements l.fn.walk) (elements l.element-iterator) l.initial.out l.out l.at
