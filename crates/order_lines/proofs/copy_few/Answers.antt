-- The number that is read is put.
use native.Mathlib.Omega.{arith}
use mathlib.Core.Path.{◌≡◌}
use Prim.Native.Nat.{◌+◌, ◌*◌, ◌≤◌}
use lib.ListN.{length, take, drop}
use Rattle.bits.specs.Bits.{number_of_bits}
use Rattle.bits.specs.Bytes.{bits_of}
use Rattle.bits.proofs.Laws.Reads.{below}
use Rattle.order_lines.proofs.Laws.Copy.{field_number, copied_number}
use Rattle.order_lines.proofs.copy_few.Goals as goal
use Rattle.order_lines.proofs.copy_few.Lts as lts
use Rattle.order_lines.proofs.copy_few.Reads as reads
use Rattle.order_lines.proofs.copy_few.Tie as tie

abbrev At-Start : Type 0
At-Start = lts.Start tie.the-claims reads.Pre reads.Post

abbrev At-After-sure-bits : Type 0
At-After-sure-bits = lts.After-sure tie.the-claims reads.Pre reads.Post

there : (c : At-Start) → c.args.p + c.args.n ≤ 8 * length c.args.block.now
there c = c.requires.0.there

is_number : (c : At-After-sure-bits) → c.sure-bits.result.value ≡ number_of_bits (take c.args.n (drop c.args.p (bits_of c.args.block.now)))
is_number c = field_number 0 c.args.n (c.sure-bits.ensures.0 0)

pub sure-bits-requires : goal.sure-bits-requires
sure-bits-requires c =
    (c.requires.0.short, c.requires.1, there c.before.before.before)

pub put_bits-requires : goal.put_bits-requires
put_bits-requires c =
    let a = c.args in
    let h = c.requires.0 in
    record {
      below = below 0 a.n (c.sure-bits.ensures.0 0);
      narrow = c.requires.1;
      room = omega (arith, h.room.room);
      near = omega (arith, h.room.near);
    }

pub returns : goal.returns
returns c =
    let a = c.args in
    copied_number a.block.now a.p a.n (is_number c.before.before.before.before.before) (there c.before.before.before.before.before.before.before.before) c.put_bits.ensures
