-- The run number by number. The loop's invariant: what is left of it is as right as the whole.
use mathlib.Core.Path.{◌≡◌}
use Rattle.std.specs.Slice.Iter.{chunks_exact_rest, chunks_exact_size}
use Rattle.card_runs.proofs.Laws.Low.{Climbing}
use Rattle.card_runs.proofs.run_right.Given as goal

abbrev pub invariant-loop-pair : goal.invariant-loop-pair
invariant-loop-pair l = (chunks_exact_size l.pair-iterator ≡ 2) × Climbing l.run (chunks_exact_rest l.pair-iterator) l.last
