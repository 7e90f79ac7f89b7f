-- The header, then view by view. The loop's invariant: the views before this byte are right and take so many bytes, whatever views
-- stand behind the 01.
use mathlib.Core.Path.{subst}
use mathlib.Core.List.{List}
use native.Mathlib.Omega.{arith}
use Rattle.sheet.specs.Fields.{Field}
use Rattle.check_values.specs.Sheet.{RecordRight, RecordWrong}
use Rattle.check_values.proofs.Laws.Views.{views_first, views_next, next_view, one_more, few_seen}
use Rattle.check_values.proofs.Laws.Sheet.{sheet_parts, widths_narrow, head_wrong, view_wrong, record_right, same_fields}
use Rattle.check_values.proofs.values.Goals as goal

pub slice_bounds-header_value-end : goal.slice_bounds-header_value-end
slice_bounds-header_value-end c = omega (arith, (sheet_parts c.requires.value c.requires.stand c.requires.right).there)

pub header_value-requires : goal.header_value-requires
header_value-requires c = (sheet_parts c.requires.value c.requires.stand c.requires.right).long

pub returns-in_err-header : goal.returns-in_err-header
returns-in_err-header c =
    rw c.from_residual.ensures (λ fs e. subst RecordWrong (same_fields c.requires fs e) (head_wrong (sheet_parts c.requires.value c.requires.stand c.requires.right) c.in_err-header.ensures))

pub loop-p-init : goal.loop-p-init
loop-p-init c = views_first c.in_ok-header.header.scale.widths c.args.sheet.now

pub view_values-requires : goal.view_values-requires
view_values-requires c =
    let D = sheet_parts c.requires.value c.requires.stand c.requires.right in
    let g = c.loop-p.invariant.is D.others D.views in
    (record { value = g.left; holds = next_view g c.loop-p-test.true }, widths_narrow _ _ c.in_ok-header.ensures)

pub returns-in_err-view : goal.returns-in_err-view
returns-in_err-view c =
    rw c.from_residual-in_err-view.ensures λ fs e.
    let D = sheet_parts c.requires.value c.requires.stand c.requires.right in
    let g = c.loop-p.invariant.is D.others D.views in
    subst RecordWrong (same_fields c.requires fs e) (view_wrong D c.in_ok-header.ensures g c.loop-p-test.true (c.in_err-view.ensures g.left (next_view g c.loop-p-test.true) g.before g.counts))

pub overflow_add-seen : goal.overflow_add-seen
overflow_add-seen c =
    let D = sheet_parts c.requires.value c.requires.stand c.requires.right in
    let g = c.loop-p.invariant.is D.others D.views in
    omega (arith, few_seen g c.in_ok-view.view.position c.in_ok-view.ensures.eleven, one_more g c.loop-p-test.true D.views.few)

pub overflow_add-views : goal.overflow_add-views
overflow_add-views c =
    let D = sheet_parts c.requires.value c.requires.stand c.requires.right in
    omega (arith, one_more (c.loop-p.invariant.is D.others D.views) c.loop-p-test.true D.views.few)

-- the view ends within the sheet
pub overflow_add-bytes : goal.overflow_add-bytes
overflow_add-bytes c =
    let D = sheet_parts c.requires.value c.requires.stand c.requires.right in
    let g = c.loop-p.invariant.is D.others D.views in
    let l = c.loop-p-test.true in
    let v = c.in_ok-view.ensures in
    omega (arith, c.loop-p.invariant.small, v.small, (v.is g.left (next_view g l) g.before g.counts).behind.within, one_more g l D.views.few, c.well_formed.0.1)

pub loop-p-preserved : goal.loop-p-preserved
loop-p-preserved c = views_next c.loop-p.invariant c.loop-p-test.true c.in_ok-view.ensures

pub returns : goal.returns
returns c =
    λ fs e.
    let D = sheet_parts c.requires.value c.requires.stand c.requires.right in
    subst (λ (x : List Field). RecordRight x c.loop-p.views c.loop-p.bytes) (same_fields c.requires fs e)
    (record_right D c.in_ok-header.ensures (c.loop-p.invariant.is D.others D.views) c.loop-p-test.false)
