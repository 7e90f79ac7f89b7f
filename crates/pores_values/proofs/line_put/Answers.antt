-- The distances behind the first four bytes, and then their number in these.
use native.Mathlib.Omega.{arith}
use Rattle.pores_values.proofs.Laws.Lines.{distances_room, distances_short, count_there, line_laid}
use Rattle.pores_values.proofs.line_put.Goals as goal

pub slice_bounds-distances_put-count : goal.slice_bounds-distances_put-count
slice_bounds-distances_put-count c =
    omega (arith, c.requires.room)

pub slice_bounds-distances_put-start : goal.slice_bounds-distances_put-start
slice_bounds-distances_put-start c =
    omega (arith, c.requires.room)

pub slice_bounds-distances_put-end : goal.slice_bounds-distances_put-end
slice_bounds-distances_put-end c =
    omega (arith, c.requires.room)

pub distances_put-distances-requires : goal.distances_put-distances-requires
distances_put-distances-requires c =
    distances_room c.requires

pub put_four-first-requires : goal.put_four-first-requires
put_four-first-requires c =
    (count_there c.requires c.distances_put-distances.ensures, omega (arith, distances_short c.requires c.distances_put-distances.ensures))

pub overflow_add-result : goal.overflow_add-result
overflow_add-result c =
    omega (arith, distances_short c.requires c.distances_put-distances.ensures, c.put_four-first.ensures.count)

pub returns : goal.returns
returns c =
    line_laid c.requires c.distances_put-distances.ensures c.put_four-first.ensures
