-- A length has at most three bytes.
use native.Mathlib.Omega.{arith}
use Rattle.card.proofs.Laws.Views.{length_few}
use Rattle.card_writing.proofs.tagged_bytes.Goals as goal

pub overflow_add-result : goal.overflow_add-result
overflow_add-result c = omega (arith, length_few c.args.n)

pub overflow_add-result-2 : goal.overflow_add-result-2
overflow_add-result-2 c = omega (arith, length_few c.args.n)
