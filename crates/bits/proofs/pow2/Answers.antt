-- A shift of 1 that loses no bit.
use native.Mathlib.Omega.{arith}
use mathlib.Core.Path.{◌∙◌}
use lib.Pow.{shl_exact, pow_mono}
use lib.Dec.{lit<}
use native.Mathlib.Nat.{one-mul}
use Rattle.bits.proofs.pow2.Goals as goal

pub returns : goal.returns
returns c =
    let e = shl_exact 1 c.args.k 64 (lit< tt) (omega arith) ∙ one-mul _ in
    (e, omega (arith, e, pow_mono {i = c.args.k} {j = 8} c.requires))
