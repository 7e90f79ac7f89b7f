-- The length that the code reads is the one that is read, and so is the end.
use mathlib.Core.Path.{refl}
use native.Mathlib.Omega.{arith}
use Rattle.bits.proofs.Laws.Reads.{below}
use Rattle.outcome.specs.Refusals.{past}
use Rattle.bits.proofs.Laws.Apart.{same}
use Rattle.find_parts.proofs.view.block_at.Goals as goal

pub overflow_add-result : goal.overflow_add-result
overflow_add-result c = omega (arith, below past 16 (c.sure-size.ensures.0 past))

pub returns : goal.returns
returns c = record { from = refl; is = λ n q h. omega (arith, (same (c.sure-size.ensures.0 past) h).0) }
