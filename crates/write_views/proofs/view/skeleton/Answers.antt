-- The block behind the first two bytes, then its length in these.
use native.Mathlib.Omega.{arith}
use lib.ListN.{length-take, length-drop}
use Rattle.write_views.proofs.Laws.View.{sized_laid, skeleton_bytes, lines_bits}
use Rattle.write_views.proofs.view.skeleton.Goals as goal

pub lines_out-lines-requires : goal.lines_out-lines-requires
lines_out-lines-requires c =
    let pre = c.requires in
    let b = lines_bits c.args.w pre.value in
    record {
      narrow = pre.narrow;
      value = pre.value;
      rest = pre.rest;
      at = pre.at;
      room = record { room = simp (length-take, length-drop) (omega (arith, b, pre.room)); near = omega (arith, b, pre.small) };
    }

pub put_two-at-requires : goal.put_two-at-requires
put_two-at-requires c =
    let pre = c.requires in
    let l = rw (skeleton_bytes c.args.w pre.value) at (c.lines_out-lines.ensures.is pre.value pre.rest pre.at).0 in
    omega (arith, l.count, pre.small, pre.room)

pub returns : goal.returns
returns c =
    record {
      is = λ ls rest h.
          let (l, n, e) = c.lines_out-lines.ensures.is ls rest h in
          (sized_laid (omega (arith, c.requires.room)) (rw (skeleton_bytes c.args.w ls) at l) c.put_two-at.ensures, n, e);
    }
