-- What stops a read or a test is a fault of its line or its view, and so of the views; a turn of a loop keeps what the loop reads.
use native.Mathlib.Omega.{arith}
use native.Mathlib.Nat.{add-mul}
use Prim.Native.Nat.{ℕ, ◌-◌, ◌+◌, ◌*◌}
use mathlib.Core.Path.{◌≡◌, ap}
use Rattle.bits.proofs.Laws.Reads.{below}
use Rattle.outcome.specs.Refusals.{bad_line}
use Rattle.judge_views.proofs.Laws.Bounds.{index_small_lem, segments_small}
use Rattle.judge_views.proofs.Laws.Line.{dirty, clean, lines_start, lines_over, line_no_start, line_no_codes, line_no_rest, line_turn}
use Rattle.judge_views.proofs.Laws.View.{views_start, head_refused, block_past, one_of_eleven, no_more_than, lines_refused, zeros_refused, index_refused, segments_refused, views_turn}
use Rattle.judge_views.proofs.judge_views.Goals as goal

pub loop-init : goal.loop-init
loop-init c = views_start _ _ _ (omega (arith, c.requires))

pub returns-in-Err : goal.returns-in-Err
returns-in-Err c =
    (head_refused c.loop.invariant c.loop-test.true c.in-Err.ensures, omega arith)

pub returns-then-bytes-b : goal.returns-then-bytes-b
returns-then-bytes-b c =
    rw c.at.ensures (block_past c.loop.invariant c.loop-test.true c.in-Ok.ensures c.if-bytes-b.true, omega arith)

pub loop-p-init : goal.loop-p-init
loop-p-init c = lines_start _ _ _ c.start-p.ensures

pub returns-then-n-eq-MOST_LINES : goal.returns-then-n-eq-MOST_LINES
returns-then-n-eq-MOST_LINES c =
    let L = c.loop-p.invariant in
    rw c.at-then-n-eq-MOST_LINES.ensures
    (lines_refused c.loop.invariant c.loop-test.true c.in-Ok.ensures c.if-bytes-b.false L.within (lines_over L c.if-n-eq-MOST_LINES.true c.loop-p-test.true), omega arith)

pub returns-then-end-p : goal.returns-then-end-p
returns-then-end-p c =
    let L = c.loop-p.invariant in
    rw c.at-then-end-p.ensures (
      lines_refused c.loop.invariant c.loop-test.true c.in-Ok.ensures c.if-bytes-b.false L.within
          (line_no_start L (omega (arith, c.if-n-eq-MOST_LINES.false, L.few)) c.loop-p-test.true (omega (arith, c.if-end-p.true))),
      omega arith,
    )

pub returns-then-end-p-2 : goal.returns-then-end-p-2
returns-then-end-p-2 c =
    let L = c.loop-p.invariant in
    let m = c.loop-left in
    rw c.at-then-end-p-2.ensures (
      lines_refused c.loop.invariant c.loop-test.true c.in-Ok.ensures c.if-bytes-b.false L.within
          (line_no_codes L (omega (arith, c.if-n-eq-MOST_LINES.false, L.few)) c.loop-p-test.true (omega arith) (c.sure-stated.ensures.0 bad_line) m.left m.p.at m.invariant.2 m.invariant.1 128 (omega (arith, c.loop-left-test.true)) c.if-end-p-2.true),
      omega arith,
    )

pub loop-left-preserved : goal.loop-left-preserved
loop-left-preserved c =
    let m = c.loop-left in
    let z : 128 + (m.left - 128) ≡ m.left = omega (arith, c.loop-left-test.true) in
    let e = ap (λ (n : ℕ). n * c.args.w.k) z in
    (omega (arith, m.invariant.0), omega (arith, m.invariant.1, c.if-end-p-2.false), omega (arith, m.invariant.2, e, add-mul 128 (m.left - 128) c.args.w.k))

pub returns-then-end-p-3 : goal.returns-then-end-p-3
returns-then-end-p-3 c =
    let L = c.loop-p.invariant in
    let m = c.loop-left in
    rw c.at-then-end-p-3.ensures (
      lines_refused c.loop.invariant c.loop-test.true c.in-Ok.ensures c.if-bytes-b.false L.within
          (line_no_rest L (omega (arith, c.if-n-eq-MOST_LINES.false, L.few)) c.loop-p-test.true (omega arith) (c.sure-stated.ensures.0 bad_line) m.left m.p.at m.invariant.2 m.invariant.1 c.if-end-p-3.true),
      omega arith,
    )

pub overflow_add-lines : goal.overflow_add-lines
overflow_add-lines c =
    omega (arith, below bad_line 8 (c.sure-stated.ensures.0 bad_line))

pub overflow_add-lines-in-loop-p : goal.overflow_add-lines-in-loop-p
overflow_add-lines-in-loop-p c =
    omega (arith, c.loop-p.invariant.few, c.loop-p.invariant.small, below bad_line 8 (c.sure-stated.ensures.0 bad_line))

pub loop-p-preserved : goal.loop-p-preserved
loop-p-preserved c =
    let L = c.loop-p.invariant in
    let m = c.loop-left in
    line_turn L (omega (arith, c.if-n-eq-MOST_LINES.false, L.few)) c.loop-p-test.true (omega arith) (c.sure-stated.ensures.0 bad_line) m.left m.p.at m.invariant.2 m.invariant.1 c.if-end-p-3.false

pub returns-in-Err-zeros_at : goal.returns-in-Err-zeros_at
returns-in-Err-zeros_at c =
    rw c.at-in-Err-zeros_at.ensures
    (zeros_refused c.loop.invariant c.loop-test.true c.in-Ok.ensures c.if-bytes-b.false c.loop-p.invariant c.loop-p-test.false (dirty c.in-Err-zeros_at.is (c.zeros_at.ensures bad_line)), omega arith)

pub returns-in-Err-index_at : goal.returns-in-Err-index_at
returns-in-Err-index_at c =
    let z = clean c.in_default.is (c.zeros_at.ensures bad_line) in
    (index_refused c.loop.invariant c.loop-test.true c.in-Ok.ensures c.if-bytes-b.false c.loop-p.invariant c.loop-p-test.false z c.in-Err-index_at.ensures, omega arith)

pub returns-in-Err-segments_at : goal.returns-in-Err-segments_at
returns-in-Err-segments_at c =
    let z = clean c.in_default.is (c.zeros_at.ensures bad_line) in
    (segments_refused c.loop.invariant c.loop-test.true c.in-Ok.ensures c.if-bytes-b.false c.loop-p.invariant c.loop-p-test.false z c.in-Ok-index_at.reached.next c.in-Ok-index_at.ensures c.in-Err-segments_at.ensures, omega arith)

pub bounds-seen-head : goal.bounds-seen-head
bounds-seen-head c =
    omega (arith, one_of_eleven c.loop.invariant c.loop-test.true c.in-Ok.ensures)

pub overflow_add-seen : goal.overflow_add-seen
overflow_add-seen c =
    omega (arith, no_more_than c.loop.invariant c.loop-test.true c.in-Ok.ensures, c.loop-test.true, c.requires)

pub bounds-seen-head-in-loop : goal.bounds-seen-head-in-loop
bounds-seen-head-in-loop c =
    omega (arith, one_of_eleven c.loop.invariant c.loop-test.true c.in-Ok.ensures)

pub overflow_add-size-in-loop : goal.overflow_add-size-in-loop
overflow_add-size-in-loop c =
    omega (arith, c.loop-p.invariant.few, c.loop-p.invariant.small, index_small_lem c.loop-p.n c.in-Ok-index_at.ensures)

pub overflow_add-size-in-loop-2 : goal.overflow_add-size-in-loop-2
overflow_add-size-in-loop-2 c =
    omega (arith, c.loop-p.invariant.few, c.loop-p.invariant.small, index_small_lem c.loop-p.n c.in-Ok-index_at.ensures, segments_small c.in-Ok-segments_at.ensures, c.requires)

pub overflow_add-size-in-loop-3 : goal.overflow_add-size-in-loop-3
overflow_add-size-in-loop-3 c =
    omega (arith, c.loop-p.invariant.few, c.loop-p.invariant.small, index_small_lem c.loop-p.n c.in-Ok-index_at.ensures, segments_small c.in-Ok-segments_at.ensures, c.loop.invariant.small, c.loop-test.true, c.requires)

pub loop-preserved : goal.loop-preserved
loop-preserved c =
    let z = clean c.in_default.is (c.zeros_at.ensures bad_line) in
    views_turn c.loop.invariant c.loop-test.true c.in-Ok.ensures c.if-bytes-b.false c.loop-p.invariant c.loop-p-test.false z c.in-Ok-index_at.reached.next c.in-Ok-index_at.ensures c.in-Ok-segments_at.reached.next (omega (arith, c.requires)) c.in-Ok-segments_at.ensures
