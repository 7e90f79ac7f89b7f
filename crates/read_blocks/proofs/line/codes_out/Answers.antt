-- One code after the other. The invariant holds the codes read, whose bytes are laid.
use native.Mathlib.Omega.{arith}
use native.Mathlib.Nat.{add-mul}
use Rattle.bits.proofs.Laws.Reads.{below}
use Rattle.outcome.specs.Refusals.{bad_line}
use Rattle.read_blocks.proofs.Laws.Line.{codes_more}
use Rattle.read_blocks.proofs.line.codes_out.Goals as goal

pub code_byte-requires : goal.code_byte-requires
code_byte-requires c = (below bad_line _ (c.sure-code.ensures.0 bad_line), omega arith, omega arith)

pub loop-byte-preserved : goal.loop-byte-preserved
loop-byte-preserved c =
    let (at, done) = c.loop-byte.invariant in
    let r = c.sure-code.ensures in
    (omega (arith, r.1, at, add-mul c.loop-byte.byte-index 1 c.args.k), codes_more done (omega (arith, c.loop-byte-test.true, c.loop-byte.auto.byte-items)) (r.0 bad_line) c.code_byte.ensures)
