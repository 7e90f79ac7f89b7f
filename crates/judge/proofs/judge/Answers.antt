-- A place is within the bytes of a record, so that it fits 32 bits.
use native.Mathlib.Omega.{arith}
use Rattle.judge.proofs.Laws.Whole.{accepted, refused_lem}
use Rattle.judge.proofs.judge.Goals as goal

pub refused-requires : goal.refused-requires
refused-requires c =
    omega (arith, c.in-Err.ensures.small)

pub returns-in-Ok : goal.returns-in-Ok
returns-in-Ok c =
    accepted c.in-Ok.ensures

pub returns-in-Err : goal.returns-in-Err
returns-in-Err c =
    rw c.refused.ensures (refused_lem c.in-Err.ensures)
