-- List by list; the invariant is what is laid and what is still read.
use Prim.Native.Nat.{◌-◌, ◌*◌, ◌≤◌}
use lib.ListN.{length, drop}
use Rattle.bits.specs.Bytes.{bits_of}
use Rattle.bits.specs.Codec.{along_dec}
use Rattle.format.specs.Index.{neighbours, up}
use Rattle.format.specs.SheetSize.{list_size}
use Rattle.sheet_bytes.specs.Bytes.{list_bytes}
use Rattle.read_blocks.proofs.Laws.Underway.{Underway}
use Rattle.read_blocks.proofs.index.lists_out.Given as goal

abbrev pub invariant-loop-l : goal.invariant-loop-l
invariant-loop-l l = (l.next.at ≤ 8 * length l.block)
    × Underway list_bytes list_size (along_dec (neighbours l.w) up l.lines 0 (drop l.initial.next.at (bits_of l.block))) (along_dec (neighbours l.w) up (l.lines - l.l) l.l (drop l.next.at (bits_of l.block))) l.initial.out l.out l.at
