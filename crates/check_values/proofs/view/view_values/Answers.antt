-- The header, the lines, the index, the segments, each as it is told. Each stands where the one before has ended.
use native.Mathlib.Omega.{arith}
use Rattle.sheet.specs.Grammar.{rest, index_rest}
use Rattle.check_values.proofs.Laws.Head.{head_seen, position_le}
use Rattle.check_values.proofs.Laws.View.{view_parts_lem, head_wrong, lines_wrong, index_wrong, view_right_lem}
use Rattle.check_values.proofs.view.view_values.Goals as goal

pub slice_bounds-head_value-end : goal.slice_bounds-head_value-end
slice_bounds-head_value-end c = omega (arith, (view_parts_lem c.requires.0.value c.requires.0.holds).there)

pub head_value-requires : goal.head_value-requires
head_value-requires c = (view_parts_lem c.requires.0.value c.requires.0.holds).long

pub returns-in_err-head : goal.returns-in_err-head
returns-in_err-head c =
    rw c.from_residual.ensures (λ fs h ps k. head_wrong c.args.w ps (view_parts_lem fs h) (head_seen _ _ k c.in_err-head.ensures.refuses))

pub line_values-requires : goal.line_values-requires
line_values-requires c =
    let D = view_parts_lem c.requires.0.value c.requires.0.holds in (record { value = D.others; holds = D.lines }, c.requires.1)

pub returns-in_err-lines : goal.returns-in_err-lines
returns-in_err-lines c =
    rw c.from_residual-in_err-lines.ensures λ fs h ps k.
    let D = view_parts_lem fs h in
    lines_wrong c.args.w ps D (head_seen _ _ k c.in_ok-head.ensures) (c.in_err-lines.ensures D.others D.lines)

pub index_values-requires : goal.index_values-requires
index_values-requires c =
    let D = view_parts_lem c.requires.0.value c.requires.0.holds in
    let L = c.in_ok-lines.ensures.is D.others D.lines in
    record { value = rest 3 D.others; holds = D.index L.behind }

pub returns-in_err-index : goal.returns-in_err-index
returns-in_err-index c =
    rw c.from_residual-in_err-index.ensures λ fs h ps k.
    let D = view_parts_lem fs h in
    let L = c.in_ok-lines.ensures.is D.others D.lines in
    index_wrong c.args.w ps D (head_seen _ _ k c.in_ok-head.ensures) L (c.in_err-index.ensures (rest 3 D.others) (D.index L.behind))

pub segment_sizes-segments-requires : goal.segment_sizes-segments-requires
segment_sizes-segments-requires c =
    let D = view_parts_lem c.requires.0.value c.requires.0.holds in
    let L = c.in_ok-lines.ensures.is D.others D.lines in
    let I = c.in_ok-index.ensures.is (rest 3 D.others) (D.index L.behind) in
    record { value = index_rest (rest 3 D.others); holds = D.segments I.behind }

-- the segments end within the sheet
pub overflow_add-result-6 : goal.overflow_add-result-6
overflow_add-result-6 c =
    let D = view_parts_lem c.requires.0.value c.requires.0.holds in
    let L = c.in_ok-lines.ensures.is D.others D.lines in
    let I = c.in_ok-index.ensures.is (rest 3 D.others) (D.index L.behind) in
    let G = c.segment_sizes-segments.ensures.is (index_rest (rest 3 D.others)) (D.segments I.behind) in
    omega (arith, c.in_ok-lines.ensures.small, c.in_ok-index.ensures.small, c.segment_sizes-segments.ensures.small, G.behind.within, c.well_formed.0.1)

pub returns : goal.returns
returns c =
    let l = c.in_ok-lines.ensures in
    let i = c.in_ok-index.ensures in
    let g = c.segment_sizes-segments.ensures in
    record {
      on = omega (arith, l.on, i.on, g.small);
      small = omega (arith, l.on, i.on, g.small, l.small, i.small);
      eleven = position_le _ _ _ c.in_ok-head.ensures;
      is = λ fs h ps k.
          let D = view_parts_lem fs h in
          let L = l.is D.others D.lines in
          let I = i.is (rest 3 D.others) (D.index L.behind) in
          view_right_lem c.args.w ps D (head_seen _ _ k c.in_ok-head.ensures) L I (g.is (index_rest (rest 3 D.others)) (D.segments I.behind));
    }
