-- The block behind the first two bytes, then its length in these.
use native.Mathlib.Omega.{arith}
use mathlib.Core.Path.{sym}
use lib.ListN.{length-take, length-drop}
use Rattle.find_parts.proofs.Laws.Segments.{segments_bytes}
use Rattle.write_views.proofs.Laws.View.{sized_laid, segments_long}
use Rattle.write_views.proofs.view.extended.Goals as goal

pub segments_out-block-requires : goal.segments_out-block-requires
segments_out-block-requires c =
    let pre = c.requires in
    record {
      value = pre.value;
      rest = pre.rest;
      at = pre.at;
      room = simp (length-take, length-drop) (omega (arith, segments_long pre.value pre.at.fits, pre.room));
    }

pub put_two-at-requires : goal.put_two-at-requires
put_two-at-requires c =
    let pre = c.requires in
    let l = rw (sym (segments_bytes pre.value pre.at.fits)) at (c.segments_out-block.ensures.is pre.value pre.rest pre.at).0 in
    omega (arith, l.count, pre.small, pre.room)

pub returns : goal.returns
returns c =
    record {
      is = λ gs rest h.
          let (l, e) = c.segments_out-block.ensures.is gs rest h in
          (sized_laid (omega (arith, c.requires.room)) (rw (sym (segments_bytes gs h.fits)) at l) c.put_two-at.ensures, e);
    }
