-- Judged, held against the room, laid.
use mathlib.Core.Path.{sym}
use Rattle.card_runs.proofs.Laws.Low.{low_bad, low_full, low_laid}
use Rattle.card_runs.proofs.lowered.Goals as goal

pub returns-then-not-run_right : goal.returns-then-not-run_right
returns-then-not-run_right c = rw c.into.ensures (low_bad c.args.run.now c.args.out.now (sym c.if-not-run_right.ensures))

pub returns-then-out-run : goal.returns-then-out-run
returns-then-out-run c = rw c.into-then-out-run.ensures (low_full c.args.run.now c.args.out.now (sym c.if-not-run_right.ensures) c.if-out-run.true)

pub returns : goal.returns
returns c = low_laid c.args.run.now c.args.out.now (sym c.if-not-run_right.ensures) c.if-out-run.false c.put_low.ensures
