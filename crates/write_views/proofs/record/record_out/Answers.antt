-- The header, then the views: the sheet's first bytes are the header's.
use native.Mathlib.Omega.{arith}
use lib.ListN.{length-take, length-drop}
use Rattle.find_parts.proofs.Laws.Written.{stored_long}
use Rattle.write_views.proofs.Laws.Record.{sheet_long, widths_are, size_is, size_small, views_small, views_there, record_laid, device_long, scale_long}
use Rattle.write_views.proofs.record.record_out.Goals as goal

pub bounds-sheet-6 : goal.bounds-sheet-6
bounds-sheet-6 c =
    let pre = c.requires in omega (arith, sheet_long pre.value pre.allowed pre.is)

pub bounds-sheet-7 : goal.bounds-sheet-7
bounds-sheet-7 c =
    let pre = c.requires in omega (arith, sheet_long pre.value pre.allowed pre.is)

pub bounds-sheet-8 : goal.bounds-sheet-8
bounds-sheet-8 c =
    let pre = c.requires in omega (arith, sheet_long pre.value pre.allowed pre.is)

pub device_out-at-requires : goal.device_out-at-requires
device_out-at-requires c =
    let pre = c.requires in
    (sheet_long pre.value pre.allowed pre.is, omega (arith, pre.room, pre.size, size_is pre.value pre.allowed pre.is), omega (arith, pre.size, size_small pre.value pre.allowed pre.is))

pub scale_out-at-requires : goal.scale_out-at-requires
scale_out-at-requires c =
    let pre = c.requires in (
      sheet_long pre.value pre.allowed pre.is,
      simp (length-take, length-drop) (omega (arith, c.device_out-at.ensures.count, device_long pre.value pre.allowed pre.is c.args.size, pre.room, pre.size, size_is pre.value pre.allowed pre.is)),
      omega (arith, pre.count, views_small pre.value pre.allowed pre.is),
    )

pub views_out-at-requires : goal.views_out-at-requires
views_out-at-requires c =
    let pre = c.requires in
    views_there pre.value pre.allowed pre.is (widths_are pre.value pre.allowed pre.is c.wide.ensures c.wide-2.ensures c.wide-3.ensures)
    (simp (length-take, length-drop) (omega (arith, c.device_out-at.ensures.count, c.scale_out-at.ensures.count, device_long pre.value pre.allowed pre.is c.args.size, scale_long pre.value pre.allowed pre.is c.args.views, pre.room, pre.size, size_is pre.value pre.allowed pre.is)))

pub overflow_add-at-2 : goal.overflow_add-at-2
overflow_add-at-2 c =
    let pre = c.requires in
    let e = widths_are pre.value pre.allowed pre.is c.wide.ensures c.wide-2.ensures c.wide-3.ensures in
    let l = record_laid pre.value pre.allowed pre.is e pre.size pre.count c.device_out-at.ensures c.scale_out-at.ensures c.views_out-at.ensures in
    omega (arith, l.count, stored_long pre.value, pre.room, pre.size)

pub returns : goal.returns
returns c =
    record {
      is = λ r a e n m.
          record_laid r a e (widths_are r a e c.wide.ensures c.wide-2.ensures c.wide-3.ensures) n m c.device_out-at.ensures c.scale_out-at.ensures c.views_out-at.ensures;
    }
