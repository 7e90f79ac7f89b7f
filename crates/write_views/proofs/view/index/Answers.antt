-- The block behind the first two bytes, then its length in these.
use native.Mathlib.Omega.{arith}
use lib.ListN.{length-take, length-drop}
use Rattle.format.specs.Index.{index_block}
use Rattle.find_parts.proofs.Laws.Blocks.{block_long}
use Rattle.write_views.proofs.view.index.Goals as goal

pub index_out-block-requires : goal.index_out-block-requires
index_out-block-requires c =
    let pre = c.requires in
    let b = block_long (index_block c.args.lines) pre.value in
    record {
      few = pre.few;
      value = pre.value;
      rest = pre.rest;
      at = pre.at;
      room = record { room = simp (length-take, length-drop) (omega (arith, b, pre.room)); near = omega (arith, b, pre.small) };
    }
