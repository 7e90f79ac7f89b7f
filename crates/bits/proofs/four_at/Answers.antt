-- Four bytes are below 256 each.
use mathlib.Core.Path.{◌≡◌}
use Prim.Native.Nat.{◌+◌}
use native.Mathlib.Omega.{arith}
use Rattle.bits.proofs.four_at.Goals as goal

pub overflow_mul-result : goal.overflow_mul-result
overflow_mul-result c =
    let a = c.args.a in
    let k = c.shared_slice_known-1 in
    omega (arith, c.two_at.ensures, (k.given a).fits, (k.given (a + 1)).fits)

pub overflow_add-result : goal.overflow_add-result
overflow_add-result c =
    let a = c.args.a in
    let k = c.shared_slice_known-1 in
    omega (arith, c.two_at.ensures, c.two_at-2.ensures, (k.given a).fits, (k.given (a + 1)).fits, (k.given (a + 2)).fits, (k.given (a + 2 + 1)).fits)

pub returns : goal.returns
returns c =
    let a = c.args.a in
    let e : a + 2 + 1 ≡ a + 3 = omega arith in
    let f = c.two_at-2.ensures in
    rw (c.two_at.ensures, f, e)
