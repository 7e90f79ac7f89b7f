-- Code by code. The invariant holds of whatever codes the bytes are: those passed are put.
use Rattle.write_blocks.proofs.Laws.Puts.{CodesSoFar}
use Rattle.write_blocks.proofs.line.codes_put.Given as goal

abbrev pub invariant-loop-code : goal.invariant-loop-code
invariant-loop-code l = CodesSoFar l.k l.value l.initial.out l.initial.p l.out l.p l.code-index
