-- Byte by byte. The invariant: the bits up to here are copied.
use native.Mathlib.Omega.{arith}
use mathlib.Core.Path.{◌≡◌, refl, ◌∙◌}
use Prim.Native.Nat.{ℕ, ◌+◌, ◌-◌, ◌*◌, ◌/◌, ◌^◌, ◌≤◌, ◌<◌}
use lib.ListN.{length, get_or, length-set}
use Rattle.order_lines.proofs.Laws.Copy.{bytes_none, bytes_more}
use Rattle.order_lines.proofs.copy_bytes.Goals as goal
use Rattle.order_lines.proofs.copy_bytes.Lts as lts
use Rattle.order_lines.proofs.copy_bytes.Reads as reads
use Rattle.order_lines.proofs.copy_bytes.Tie as tie

abbrev At-After-shared_slice_known-1 : Type 0
At-After-shared_slice_known-1 = lts.After-shared_slice_known tie.the-claims reads.Pre reads.Post goal.the-invariant-loop-i goal.the-decreases-loop-i

abbrev At-In-loop-i : Type 0
At-In-loop-i = lts.In-loop tie.the-claims reads.Pre reads.Post goal.the-invariant-loop-i goal.the-decreases-loop-i

small : (c : At-After-shared_slice_known-1) (i : ℕ) → get_or c.args.block.now i 0 < 2 ^ 8
small c i = (c.shared_slice_known-1.given i).fits

inside : (c : At-In-loop-i) → c.args.p + 8 * (c.loop-i.i + 1) ≤ 8 * length c.args.block.now
inside c = omega (arith, c.loop-i-test.true, c.requires.there)

within : (c : At-In-loop-i) → c.args.a + c.loop-i.i < length c.loop-i.out
within c = omega (arith, c.loop-i-test.true, c.loop-i.invariant.1, c.requires.room.room)

pub loop-i-init : goal.loop-i-init
loop-i-init c =
    (omega arith, refl, bytes_none c.args.block.now c.args.p c.args.a c.args.out.now)

pub overflow_add-first : goal.overflow_add-first
overflow_add-first c =
    omega (arith, inside (c.before), c.requires.short)

pub overflow_mul-two : goal.overflow_mul-two
overflow_mul-two c =
    omega (arith, c.wide.ensures, small c.before.before.before.before.before (c.args.p / 8 + c.loop-i.i))

pub overflow_add-last-in-loop-i : goal.overflow_add-last-in-loop-i
overflow_add-last-in-loop-i c =
    omega (arith, inside c.before.before.before, c.requires.short)

pub overflow_add-two : goal.overflow_add-two
overflow_add-two c =
    let f = small c.before.before.before.before.before.before.before in
    omega (arith, c.wide.ensures, c.wide-in-loop-i.ensures, f (c.args.p / 8 + c.loop-i.i), f ((c.args.p + 7) / 8 + c.loop-i.i))

pub bounds-out-a : goal.bounds-out-a
bounds-out-a c =
    within c.before.before.before.before.before

pub loop-i-preserved : goal.loop-i-preserved
loop-i-preserved c =
    let a = c.args in
    (omega (arith, c.loop-i-test.true), length-set c.loop-i.out (a.a + c.loop-i.i) _ ∙ c.loop-i.invariant.1, bytes_more a.block.now a.p a.a c.loop-i.i (small c.before.before.before.before.before.before.before) (inside c.before.before.before.before.before) c.wide.ensures c.wide-in-loop-i.ensures c.loop-i.invariant.2 (within c.before.before.before.before.before))

pub returns : goal.returns
returns c =
    let z : c.loop-i.i ≡ c.args.count = omega (arith, c.loop-i.invariant.0, c.loop-i-test.false) in rw z at c.loop-i.invariant.2
