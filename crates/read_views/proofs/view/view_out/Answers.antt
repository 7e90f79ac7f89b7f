-- The view is there, and so are its header's eight bytes and its blocks. The field's start, the header and the blocks' fields, one
-- behind the other, are the view's.
use native.Mathlib.Omega.{arith}
use lib.ListN.{length-take, length-drop}
use Rattle.bits.proofs.Laws.Place.{all_bytes}
use Rattle.find_parts.proofs.Laws.View.{view_apart}
use Rattle.read_views.proofs.Laws.View.{blocks_wide, view_laid}
use Rattle.read_views.proofs.view.view_out.Goals as goal

pub overflow_add-b : goal.overflow_add-b
overflow_add-b c =
    let lines = (view_apart c.args.w c.requires.seen c.requires.reads).0.blocks.lines in
    omega (arith, c.requires.short, lines.from, lines.within)

pub slice_bounds-copy-end-2 : goal.slice_bounds-copy-end-2
slice_bounds-copy-end-2 c =
    let lines = (view_apart c.args.w c.requires.seen c.requires.reads).0.blocks.lines in
    omega (arith, lines.from, lines.within)

pub blocks_out-blocks-requires : goal.blocks_out-blocks-requires
blocks_out-blocks-requires c =
    let view = (view_apart c.args.w c.requires.seen c.requires.reads).0 in
    record {
      narrow = c.requires.narrow;
      short = c.requires.short;
      value = c.requires.value;
      behind = view.behind;
      blocks = view.blocks;
      room = simp (length-take, length-drop) (omega (arith, c.requires.room, c.put_three-at.ensures.count, simp length-take at c.copy-at.ensures.count));
    }

pub overflow_add-at-2 : goal.overflow_add-at-2
overflow_add-at-2 c =
    let view = (view_apart c.args.w c.requires.seen c.requires.reads).0 in
    omega (arith, c.requires.room, blocks_wide view.blocks c.blocks_out-blocks.ensures, c.put_three-at.ensures.count, simp length-take at c.copy-at.ensures.count)

pub returns : goal.returns
returns c =
    let bytes = all_bytes c.args.bytes.now (λ i. (c.type_inv.bytes i).fits) in
    record { is = view_laid c.args.a bytes c.put_three-at.ensures c.copy-at.ensures c.blocks_out-blocks.ensures }
