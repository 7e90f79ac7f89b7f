-- List by list; the invariant is what is laid and what is still read.
use native.Mathlib.Omega.{arith}
use mathlib.Core.Path.{ap}
use lib.ListN.{length-take, length-drop}
use Rattle.bits.specs.Lists.{total}
use Rattle.format.specs.SheetSize.{list_size}
use Rattle.sheet_bytes.specs.Bytes.{list_bytes}
use Rattle.read_blocks.proofs.Laws.Underway.{one_more}
use Rattle.read_blocks.proofs.Laws.Index.{list_at_lem, one_value}
use Rattle.sheet_bytes.proofs.Laws.Sizes.{list_size_lem}
use Rattle.read_blocks.proofs.index.lists_out.Goals as goal

pub list_out-list-requires : goal.list_out-list-requires
list_out-list-requires c =
    let p = c.requires in
    let (at, U) = c.loop-l.invariant in
    let t = list_at_lem c.args.w c.args.lines c.loop-l.l c.args.block.now c.loop-l.next.at (omega arith) U.next in (
      p.0,
      omega arith,
      record {
        short = p.2.short;
        place = at;
        value = t.value;
        left = t.after;
        reads = t.there;
        room = simp (length-take, length-drop) (omega (arith, U.laying.room, ap (total list_size) t.is));
      },
    )

pub loop-l-preserved : goal.loop-l-preserved
loop-l-preserved c =
    let U = c.loop-l.invariant.1 in
    let t = list_at_lem c.args.w c.args.lines c.loop-l.l c.args.block.now c.loop-l.next.at (omega arith) U.next in
    let o = c.list_out-list.ensures in
    let (is, behind) = one_value t.there o.reads in
    (o.reads.within, one_more list_bytes list_size U t.is (rw behind at t.next) (list_size_lem t.value) (rw is at o.laid))
