-- Each value behind the first three is below the limit.
use Rattle.std.proofs.Common.{rules, ℕ, ◌<◌, length, get_or}
use Rattle.quality_payload.proofs.Laws.Judging.{cell_values, values_right_lem}
use Rattle.quality_payload.proofs.judge_values.Goals as goal

pub returns-then-all : goal.returns-then-all
returns-then-all c =
    let small : (i : ℕ) → i < length (cell_values c.args.values.now) → get_or (cell_values c.args.values.now) i 0 < c.pow2-limit.result = search rules in
    values_right_lem c.in_ok-grid.ensures c.if-cells-grid.false c.pow2-limit.ensures.0 small
