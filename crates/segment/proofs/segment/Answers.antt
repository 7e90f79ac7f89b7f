-- Each case of what is found is an answer; the payload's first bit is among a record's bits, so that it fits.
use native.Mathlib.Omega.{arith}
use Rattle.find_segment.proofs.Laws.{bounds}
use Rattle.segment.proofs.Laws.{answer_refused, answer_at}
use Rattle.segment.proofs.segment.Goals as goal

pub overflow_mul-result : goal.overflow_mul-result
overflow_mul-result c =
    omega (arith, bounds c.in-Ok.ensures)

pub overflow_cast-result : goal.overflow_cast-result
overflow_cast-result c =
    omega (arith, bounds c.in-Ok.ensures)

pub overflow_sub-result : goal.overflow_sub-result
overflow_sub-result c =
    omega (arith, bounds c.in-Ok.ensures)

pub returns-in-Err : goal.returns-in-Err
returns-in-Err c =
    rw c.of.ensures (answer_refused c.args.view c.args.place c.args.bytes.now c.in-Err.ensures)

pub returns-in-Ok : goal.returns-in-Ok
returns-in-Ok c =
    answer_at c.args.view c.args.place c.args.bytes.now c.in-Ok.ensures
