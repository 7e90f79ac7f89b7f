-- The view of an order, and what of its blocks the functions for the blocks ask.
use Prim.Native.Nat.{ℕ, ◌-◌, ◌≤◌}
use native.Mathlib.Omega.{arith}
use mathlib.Core.List.{List}
use lib.ListN.{length}
use Rattle.bits.specs.Lists.{All}
use Rattle.bits.specs.Bytes.{Byte}
use Rattle.bits.proofs.Laws.Parts.{part_bytes}
use Rattle.format.specs.Places.{view_at, count}
use Rattle.format.proofs.Laws.Record.{narrow}
use Rattle.find_parts.proofs.Laws.Blocks.{cut, cut_long, few_lines}
use Rattle.find_parts.proofs.Laws.Record.{record_apart}
use Rattle.order_record.specs.Blocks.{OldSkeleton, OldIndex, OldExtended}
use Rattle.order_record.specs.Rebuilt.{Placed}
use Rattle.find_parts.specs.declared.site.Site.{Site}

-- ---- the blocks, cut out of the record

module _ {s : List ℕ} {x : Site} {words removal : List ℕ} (t : Placed s x words removal) where
  pub short : length s ≤ 32768
  short = (record_apart s t.reads).short

  pub few : x.lines ≤ 1024
  few = omega (arith, t.at.count, few_lines x.widths t.at.lines)

  unfoldable pub old_skeleton : All Byte s → OldSkeleton x.widths (cut s x.skeleton.from x.skeleton.to) x.lines removal
  old_skeleton f =
      record {
        narrow = rw t.at.widths (narrow (record_apart s t.reads).fits);
        bytes = part_bytes s x.skeleton.from (x.skeleton.to - x.skeleton.from) f;
        short = omega (arith, short, cut_long t.at.lines, t.at.lines.within);
        rising = t.rising;
        value = (view_at t.value t.place).lines;
        reads = t.at.lines.value;
        count = t.at.count;
      }

  unfoldable pub old_index : OldIndex (cut s x.index.from x.index.to) x.lines words removal
  old_index =
      record {
        short = omega (arith, short, cut_long t.at.index, t.at.index.within);
        rising = t.rising;
        few = few;
        value = (view_at t.value t.place).index;
        reads = t.at.index.value;
        keeps = t.keeps;
      }

  unfoldable pub old_extended : All Byte s → OldExtended (cut s x.extended.from x.extended.to) x.lines removal
  old_extended f =
      record {
        bytes = part_bytes s x.extended.from (x.extended.to - x.extended.from) f;
        short = omega (arith, short, cut_long t.at.segments, t.at.segments.within);
        rising = t.rising;
        few = few;
        value = (view_at t.value t.place).segments;
        reads = t.at.segments.value;
        right = t.right;
      }
