-- View by view. The invariant holds of whatever views the fields are: those passed are laid.
use native.Mathlib.Omega.{arith}
use lib.ListN.{length-take, length-drop}
use Rattle.write_views.proofs.Laws.Record.{view_here, view_space, view_done, view_on, views_going, views_end}
use Rattle.write_views.proofs.record.views_out.Goals as goal

pub view_out-view-requires : goal.view_out-view-requires
view_out-view-requires c =
    let pre = c.requires in
    let g = c.loop-p.invariant pre.value pre.is pre.right in
    let n = view_here c.args.w g c.loop-p-test.true in
    record {
      narrow = pre.narrow;
      value = n.one;
      rest = _;
      is = n.stand;
      next = n.next;
      right = n.right;
      room = simp (length-take, length-drop) (omega (arith, view_space c.args.w g n pre.room));
    }

pub overflow_add-at : goal.overflow_add-at
overflow_add-at c =
    let pre = c.requires in
    let g = c.loop-p.invariant pre.value pre.is pre.right in
    let n = view_here c.args.w g c.loop-p-test.true in
    omega (arith, (view_done c.args.w g n c.view_out-view.ensures).0.count, view_space c.args.w g n pre.room)

pub loop-p-smaller : goal.loop-p-smaller
loop-p-smaller c =
    let pre = c.requires in
    let g = c.loop-p.invariant pre.value pre.is pre.right in
    view_on c.args.w g (view_here c.args.w g c.loop-p-test.true) c.view_out-view.ensures c.loop-p-test.true

pub loop-p-preserved : goal.loop-p-preserved
loop-p-preserved c =
    λ vs e r. let g = c.loop-p.invariant vs e r in views_going c.args.w g (view_here c.args.w g c.loop-p-test.true) c.view_out-view.ensures

pub returns : goal.returns
returns c = views_end c.args.w c.loop-p.invariant c.loop-p-test.false
