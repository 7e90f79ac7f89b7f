-- Nothing, or the width and then the lists, each as it is told.
use native.Mathlib.Omega.{arith}
use Rattle.check_shape.proofs.Laws.Stand.{denied}
use Rattle.check_blocks.proofs.Laws.Index.{no_index_lem, index_there, width_most, width_wrong, lists_wrong, index_right}
use Rattle.check_blocks.proofs.index.index_values.Goals as goal

pub returns-then-not-starts : goal.returns-then-not-starts
returns-then-not-starts c =
    record { small = omega arith; on = omega arith; is = λ fs h. no_index_lem fs h.stand (denied c.if-not-starts.true (c.starts.ensures.is fs h.stand)) }

pub slice_bounds-width_value-end : goal.slice_bounds-width_value-end
slice_bounds-width_value-end c = omega (arith, (index_there c.starts.ensures c.if-not-starts.false c.requires.value c.requires.holds).there)

pub width_value-requires : goal.width_value-requires
width_value-requires c = (index_there c.starts.ensures c.if-not-starts.false c.requires.value c.requires.holds).long

pub returns-in_err-w : goal.returns-in_err-w
returns-in_err-w c =
    rw c.from_residual.ensures (λ fs h. width_wrong (index_there c.starts.ensures c.if-not-starts.false fs h) c.in_err-w.ensures)

pub list_values-requires : goal.list_values-requires
list_values-requires c =
    let I = index_there c.starts.ensures c.if-not-starts.false c.requires.value c.requires.holds in
    (record { value = I.others; holds = I.lists }, width_most _ _ c.in_ok-w.ensures)

pub returns-in_err-lists : goal.returns-in_err-lists
returns-in_err-lists c =
    rw c.from_residual-in_err-lists.ensures λ fs h.
    let I = index_there c.starts.ensures c.if-not-starts.false fs h in
    lists_wrong I c.in_ok-w.ensures (c.in_err-lists.ensures I.others I.lists)

pub returns : goal.returns
returns c =
    let L = c.in_ok-lists.ensures in
    record {
      small = omega (arith, L.small);
      on = omega (arith, L.on);
      is = λ fs h. let I = index_there c.starts.ensures c.if-not-starts.false fs h in index_right I c.in_ok-w.ensures (L.is I.others I.lists);
    }
