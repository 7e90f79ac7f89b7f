-- The field is shifted out of the bytes that it touches.
use native.Mathlib.Omega.{arith}
use Prim.Native.Nat.{ℕ, ◌+◌, ◌-◌, ◌/◌, ◌^◌, ◌<◌}
use mathlib.Core.Path.{sym, ap}
use lib.ListN.{get_or, take, drop}
use Rattle.bits.specs.Bits.{number_of_bits}
use Rattle.bits.specs.Bytes.{bits_of}
use Rattle.bits.proofs.Laws.Place.{out_of_two, out_of_three}
use Rattle.bits.proofs.number_at.Goals as goal
use Rattle.bits.proofs.number_at.Lts as lts
use Rattle.bits.proofs.number_at.Reads as reads
use Rattle.bits.proofs.number_at.Tie as tie

abbrev At-Start : Type 0
At-Start = lts.Start tie.the-claims reads.Pre reads.Post

abbrev At-After-shared_slice_known-1 : Type 0
At-After-shared_slice_known-1 = lts.After-shared_slice_known tie.the-claims reads.Pre reads.Post

small : (c : At-After-shared_slice_known-1) (i : ℕ) → get_or c.args.bytes.now i 0 < 2 ^ 8
small c i = (c.shared_slice_known-1.given i).fits

abbrev last_byte : (c : At-Start) → ℕ
last_byte c = (c.args.at + c.args.w - 1) / 8

pub returns-then-w-eq0 : goal.returns-then-w-eq0
unfolding number_of_bits
returns-then-w-eq0 c =
    let a = c.args in
    sym (ap (λ (n : ℕ). number_of_bits (take n (drop a.at (bits_of a.bytes.now)))) c.if-w-eq0.true)

pub overflow_mul-two : goal.overflow_mul-two
overflow_mul-two c =
    omega (arith, c.wide.ensures, small c.before.before.before.before.before (c.args.at / 8))

pub overflow_add-two : goal.overflow_add-two
overflow_add-two c =
    let f = small c.before.before.before.before.before.before.before in
    omega (arith, c.wide.ensures, c.wide-then-w-le9.ensures, f (c.args.at / 8), f (last_byte c.before.before.before.before.before.before.before.before))

pub returns-then-w-le9 : goal.returns-then-w-le9
returns-then-w-le9 c =
    let a = c.args in
    out_of_two a.bytes.now a.at a.w (omega (arith, c.requires)) (small c.before.before.before.before.before.before.before) (omega arith) (omega (arith, c.if-w-eq0.false)) (omega (arith, c.if-w-le9.true)) c.wide.ensures c.wide-then-w-le9.ensures (omega arith)

pub overflow_mul-three : goal.overflow_mul-three
overflow_mul-three c =
    let f = small c.before.before.before.before in
    omega (arith, c.two_at.ensures, f (c.args.at / 8), f (c.args.at / 8 + 1))

pub overflow_add-three : goal.overflow_add-three
overflow_add-three c =
    let f = small c.before.before.before.before.before.before in
    omega (arith, c.two_at.ensures, c.wide-2.ensures, f (c.args.at / 8), f (c.args.at / 8 + 1), f (last_byte c.before.before.before.before.before.before.before))

pub returns : goal.returns
returns c =
    let a = c.args in
    out_of_three a.bytes.now a.at a.w (omega (arith, c.requires)) (small c.before.before.before.before.before.before) (omega arith) (omega (arith, c.if-w-le9.false)) (omega (arith, c.requires)) c.two_at.ensures c.wide-2.ensures (omega arith)
