-- The start, then two parts of the block: one behind the other.
use native.Mathlib.Omega.{arith}
use mathlib.Core.Path.{◌≡◌}
use Prim.Native.Nat.{◌+◌, ◌-◌}
use Rattle.put_bytes.proofs.Laws.{laid_next}
use Rattle.read_blocks.proofs.segments.segment_out.Goals as goal

pub returns : goal.returns
returns c =
    let a = c.args in
    let b : a.a + 2 - a.a ≡ 2 = omega arith in
    let e : a.a + a.n - (a.a + 4) ≡ a.n - 4 = omega arith in
    rw (b, e) at (laid_next (laid_next c.put_three-at.ensures c.copy-at.ensures) c.copy-at-2.ensures)
