-- The header, then the views, and what may be left behind them.
use native.Mathlib.Omega.{arith}
use Rattle.std.proofs.lemmas.Result.{err_from_is_err_and}
use Rattle.judge.proofs.Laws.Whole.{too_short, too_long_lem, size_ok_lem, header_bad, views_bad, left_over, all_read, header_fits}
use Rattle.judge.proofs.found.Goals as goal
use Rattle.judge.proofs.found.Goals.{then-bytes-lt-LEAST_BYTES-via-then-bytes-lt-LEAST_BYTES, then-bytes-lt-LEAST_BYTES-via-else-bytes-lt-LEAST_BYTES+then-bytes-gt-MOST_BYTES}

pub returns-then-bytes-lt-LEAST_BYTES : goal.returns-then-bytes-lt-LEAST_BYTES
returns-then-bytes-lt-LEAST_BYTES c =
    let s = c.args.bytes.now in
    rw c.at.ensures (elim c.then-bytes-lt-LEAST_BYTES.branch [
      | then-bytes-lt-LEAST_BYTES-via-then-bytes-lt-LEAST_BYTES w ↦ too_short s w.if-bytes-lt-LEAST_BYTES.true
      | then-bytes-lt-LEAST_BYTES-via-else-bytes-lt-LEAST_BYTES+then-bytes-gt-MOST_BYTES w ↦ too_long_lem s w.if-bytes-gt-MOST_BYTES.true
    ])

pub returns-in_err-header : goal.returns-in_err-header
returns-in_err-header c =
    let s = c.args.bytes.now in
    let t = size_ok_lem s (omega arith) (omega arith) in
    let p = err_from_is_err_and c.from_residual.result c.from_residual.ensures.1 in
    rw (p.1, p.2) (header_bad s t _ c.in_err-header.ensures)

pub judge_views-requires : goal.judge_views-requires
judge_views-requires c =
    let f = header_fits c.args.bytes.now _ _ c.in_ok-header.ensures in
    (omega arith, omega arith, f.0, f.1, f.2, f.3)

pub returns-in_err-reached : goal.returns-in_err-reached
returns-in_err-reached c =
    let s = c.args.bytes.now in
    let t = size_ok_lem s (omega arith) (omega arith) in
    let p = err_from_is_err_and c.from_residual-in_err-reached.result c.from_residual-in_err-reached.ensures.1 in
    rw (p.1, p.2) (views_bad s t _ _ c.in_ok-header.ensures _ c.in_err-reached.ensures.0)

pub returns-then-reached-bytes : goal.returns-then-reached-bytes
returns-then-reached-bytes c =
    let s = c.args.bytes.now in
    let t = size_ok_lem s (omega arith) (omega arith) in
    rw c.at-then-reached-bytes.ensures (left_over s t _ _ c.in_ok-header.ensures _ _ c.in_ok-reached.ensures.0 c.if-reached-bytes.true)

pub returns : goal.returns
returns c =
    let s = c.args.bytes.now in
    let t = size_ok_lem s (omega arith) (omega arith) in
    all_read s t _ _ c.in_ok-header.ensures _ _ c.in_ok-reached.ensures.0 c.if-reached-bytes.false
