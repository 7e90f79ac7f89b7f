-- A code below 2 to the k - 1 is its byte; any other has the bits above it set.
use native.Mathlib.Omega.{arith}
use Rattle.read_blocks.proofs.Laws.Line.{code_low, code_high}
use Rattle.read_blocks.proofs.line.code_byte.Goals as goal

pub returns-then-n-pow2 : goal.returns-then-n-pow2
returns-then-n-pow2 c =
    let a = c.args in
    code_low a.k a.n (omega (arith, c.pow2.ensures.0))

pub returns-else-n-pow2 : goal.returns-else-n-pow2
returns-else-n-pow2 c =
    let a = c.args in
    rw c.pow2-else-n-pow2.ensures.0 (code_high a.k a.n (omega (arith, c.pow2.ensures.0)))
