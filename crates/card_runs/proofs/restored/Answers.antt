-- Judged, held against the room, laid.
use native.Mathlib.Omega.{arith}
use mathlib.Core.Path.{sym}
use Rattle.card_runs.proofs.Laws.Back.{back_bad, back_full, back_laid}
use Rattle.card_runs.proofs.restored.Goals as goal

pub returns-then-not-bytes_right : goal.returns-then-not-bytes_right
returns-then-not-bytes_right c = rw c.into.ensures (back_bad c.args.bytes.now c.args.out.now (sym c.if-not-bytes_right.ensures))

pub returns-then-out-bytes : goal.returns-then-out-bytes
returns-then-out-bytes c = rw c.into-then-out-bytes.ensures (back_full c.args.bytes.now c.args.out.now (sym c.if-not-bytes_right.ensures) c.if-out-bytes.true)

pub put_run-requires : goal.put_run-requires
put_run-requires c = (rw (sym c.if-not-bytes_right.ensures) tt, omega (arith, c.if-out-bytes.false))

pub returns : goal.returns
returns c = back_laid c.args.bytes.now c.args.out.now (sym c.if-not-bytes_right.ensures) c.if-out-bytes.false c.put_run.ensures
