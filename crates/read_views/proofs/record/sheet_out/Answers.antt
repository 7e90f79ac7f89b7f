-- The header's field, which takes 12 bytes, and the views' fields behind it.
use native.Mathlib.Omega.{arith}
use lib.ListN.{length-take, length-drop}
use Rattle.bits.proofs.Laws.Place.{all_bytes}
use Rattle.read_views.proofs.Laws.Record.{header_room, views_room, views_wide, sheet_laid}
use Rattle.read_views.proofs.record.sheet_out.Goals as goal

pub header_out-at-requires : goal.header_out-at-requires
header_out-at-requires c =
    header_room c.requires

pub views_out-at-requires : goal.views_out-at-requires
views_out-at-requires c =
    let s = c.requires in
    record {
      value = s.value;
      reads = s.reads;
      widths = s.widths;
      views = s.views;
      room = simp (length-take, length-drop) (omega (arith, views_room s c.header_out-at.ensures));
    }

pub overflow_add-at : goal.overflow_add-at
overflow_add-at c =
    let s = c.requires in
    omega (arith, views_room s c.header_out-at.ensures, views_wide c.views_out-at.ensures s.reads)

pub returns : goal.returns
returns c =
    let bytes = all_bytes c.args.bytes.now (λ i. (c.type_inv.bytes i).fits) in
    sheet_laid bytes c.header_out-at.ensures c.views_out-at.ensures
