-- One view after the other. The invariant holds the views that are laid and those still to be read.
use native.Mathlib.Omega.{arith}
use lib.ListN.{length-take, length-drop}
use Rattle.format.proofs.Laws.Record.{narrow}
use Rattle.find_parts.proofs.Laws.Record.{record_apart}
use Rattle.find_parts.proofs.Laws.Views.{view_next}
use Rattle.read_views.proofs.Laws.Views.{views_start, view_room, view_fits, views_more}
use Rattle.read_views.proofs.record.views_out.Goals as goal

pub loop-init : goal.loop-init
loop-init c = views_start c.requires

pub view_out-v-requires : goal.view_out-v-requires
view_out-v-requires c =
    let record_at = record_apart c.args.bytes.now c.requires.reads in
    let done = c.loop.invariant in
    let next = view_next done.left c.loop-test.true in
    record {
      narrow = rw c.requires.widths (narrow record_at.fits);
      short = record_at.short;
      seen = next.seen;
      value = next.value;
      behind = next.behind;
      reads = next.reads;
      room = simp (length-take, length-drop) (omega (arith, view_room done next));
    }

pub overflow_add-at : goal.overflow_add-at
overflow_add-at c =
    let done = c.loop.invariant in
    let next = view_next done.left c.loop-test.true in
    omega (arith, view_fits done next c.view_out-v.ensures)

pub loop-preserved : goal.loop-preserved
loop-preserved c =
    let done = c.loop.invariant in
    let next = view_next done.left c.loop-test.true in
    views_more done next c.view_out-v.ensures
