-- The lowest k bits, and by the top one of them what they extend to.
use Rattle.check_line.proofs.Laws.{code_low, code_high}
use Rattle.check_line.proofs.code_right.Goals as goal

pub returns-then-low-pow2 : goal.returns-then-low-pow2
returns-then-low-pow2 c =
    code_low _ _ _ _ c.pow2-all.ensures.0 c.pow2.ensures.0 c.if-low-pow2.true

pub returns-else-low-pow2 : goal.returns-else-low-pow2
returns-else-low-pow2 c =
    code_high _ _ _ _ c.pow2-all.ensures.0 c.pow2.ensures.0 c.if-low-pow2.false
