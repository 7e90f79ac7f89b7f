-- `worth::narrow::narrow` meets its contract: a shift of 1 that loses no bit is the power.
use native.Mathlib.Omega.{arith}
use native.Mathlib.Nat.{one-mul}
use mathlib.Core.Path.{ap, ◌∙◌}
use Prim.Native.Nat.{ℕ}
use lib.Dec.{ltb, lit<}
use lib.Pow.{shl_exact}
use Rattle.check_value.proofs.narrow.narrow.Goals as goal

pub returns : goal.returns
returns c =
    ap (λ (x : ℕ). ltb c.args.n x) (shl_exact 1 c.args.m 64 (lit< tt) (omega arith) ∙ one-mul _)
