-- Two bytes are below 256 each.
use Prim.Native.Nat.{◌+◌}
use native.Mathlib.Omega.{arith}
use Rattle.bits.proofs.two_at.Goals as goal

pub overflow_mul-result : goal.overflow_mul-result
overflow_mul-result c =
    let a = c.args.a in
    omega (arith, c.wide.ensures, (c.shared_slice_known-2-1.given a).fits)

pub overflow_add-result : goal.overflow_add-result
overflow_add-result c =
    let a = c.args.a in
    omega (arith, c.wide.ensures, c.wide-2.ensures, (c.shared_slice_known-2-1.given a).fits, (c.shared_slice_known-3-1.given (a + 1)).fits)
