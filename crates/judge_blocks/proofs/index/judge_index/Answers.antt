-- `blocks::index::judge_index` meets its contract: what stops a read or a test is a fault of the list, or of the width, and so of the
-- index; a turn of a loop keeps what it carries.
use native.Mathlib.Omega.{arith}
use Prim.Native.Nat.{ℕ, ◌<◌}
use mathlib.Core.Path.{◌≡◌}
use Rattle.std.proofs.Common.{true, false}
use Rattle.std.specs.Bool.{◌==◌}
use Rattle.std.proofs.lemmas.Result.{err_from_is_err_and}
use Rattle.bits.proofs.Laws.Reads.{at_place}
use Rattle.outcome.specs.Refusals.{bad_index}
use Rattle.judge_blocks.proofs.Laws.Index.{index_none, width_bad, listed_start, narrow, count_cut, count_few, differing_start, diff_cut, diff_low, diff_high, differing_turn, listed_turn, end_dirt, end_far, end_good}
use Rattle.judge_blocks.proofs.index.judge_index.Goals as goal
use Rattle.judge_blocks.proofs.index.judge_index.Goals.{then-d-least-via-then-d-least, then-d-least-via-else-d-least+then-most-d}

some_bytes : (n : ℕ) → false ≡ (n == 0) → 0 < n
some_bytes n h = grind arith

no_bytes : (n : ℕ) → true ≡ (n == 0) → n ≡ 0
no_bytes n h = grind arith

pub returns-then-is_empty : goal.returns-then-is_empty
returns-then-is_empty c = index_none _ _ (no_bytes _ c.if-is_empty.ensures)

pub returns-in_err-width : goal.returns-in_err-width
returns-in_err-width c =
    let p = err_from_is_err_and c.from_residual.result c.from_residual.ensures.1 in
    rw (p.1, p.2) (width_bad _ _ (some_bytes _ c.if-is_empty.ensures) (at_place c.start.ensures (c.in_err-width.ensures bad_index)))

pub loop-l-init : goal.loop-l-init
loop-l-init c = listed_start _ _ (some_bytes _ c.if-is_empty.ensures) (at_place c.start.ensures (c.in_ok-width.ensures bad_index))

pub field-requires : goal.field-requires
field-requires c = (c.requires.0, narrow c.loop-l.invariant, c.loop-l.invariant.within)

pub returns-in_err-count : goal.returns-in_err-count
returns-in_err-count c =
    let p = err_from_is_err_and c.from_residual-in_err-count.result c.from_residual-in_err-count.ensures.1 in
    rw (p.1, p.2) (count_cut c.loop-l.invariant c.loop-l-test.true (c.in_err-count.ensures bad_index))

pub loop-init : goal.loop-init
loop-init c = differing_start c.loop-l.invariant c.loop-l-test.true (c.in_ok-count.ensures bad_index)

pub field-requires-in-loop : goal.field-requires-in-loop
field-requires-in-loop c = (c.requires.0, narrow c.loop-l.invariant, c.loop.invariant.within)

pub returns-in_err-d : goal.returns-in_err-d
returns-in_err-d c =
    let p = err_from_is_err_and c.from_residual-in_err-d.result c.from_residual-in_err-d.ensures.1 in
    rw (p.1, p.2) (diff_cut c.loop-l.invariant c.loop-l-test.true (c.in_ok-count.ensures bad_index) c.loop.invariant c.loop-test.true (c.in_err-d.ensures bad_index))

pub returns-then-d-least : goal.returns-then-d-least
returns-then-d-least c =
    elim c.then-d-least.branch [
      | then-d-least-via-then-d-least w ↦ diff_low c.loop-l.invariant c.loop-l-test.true (c.in_ok-count.ensures bad_index) c.loop.invariant c.loop-test.true (c.in_ok-d.ensures bad_index) w.if-d-least.true
      | then-d-least-via-else-d-least+then-most-d w ↦ diff_high c.loop-l.invariant c.loop-l-test.true (c.in_ok-count.ensures bad_index) c.loop.invariant c.loop-test.true (c.in_ok-d.ensures bad_index) w.if-most-d.true
    ]

pub loop-preserved : goal.loop-preserved
loop-preserved c =
    differing_turn c.loop-l.invariant c.loop-l-test.true (c.in_ok-count.ensures bad_index) c.loop.invariant c.loop-test.true (c.in_ok-d.ensures bad_index) c.if-d-least.false c.if-most-d.false

pub overflow_mul-size : goal.overflow_mul-size
overflow_mul-size c = omega (arith, count_few c.loop-l.invariant c.loop-l-test.true (c.in_ok-count.ensures bad_index))

pub overflow_add-size : goal.overflow_add-size
overflow_add-size c = omega (arith, count_few c.loop-l.invariant c.loop-l-test.true (c.in_ok-count.ensures bad_index))

pub overflow_add-size-in-loop-l : goal.overflow_add-size-in-loop-l
overflow_add-size-in-loop-l c = omega (arith, count_few c.loop-l.invariant c.loop-l-test.true (c.in_ok-count.ensures bad_index), c.loop-l.invariant.small)

pub loop-l-preserved : goal.loop-l-preserved
loop-l-preserved c = listed_turn c.loop-l.invariant c.loop-l-test.true (c.in_ok-count.ensures bad_index) c.loop.invariant c.loop-test.false

pub returns-in_err-zeros_at : goal.returns-in_err-zeros_at
returns-in_err-zeros_at c =
    let p = err_from_is_err_and c.from_residual-in_err-zeros_at.result c.from_residual-in_err-zeros_at.ensures.1 in
    rw (p.1, p.2) (end_dirt c.loop-l.invariant c.loop-l-test.false (c.in_err-zeros_at.ensures bad_index))

pub returns-then-block-p-ge8 : goal.returns-then-block-p-ge8
returns-then-block-p-ge8 c = end_far c.loop-l.invariant c.loop-l-test.false (c.in_ok-zeros_at.ensures bad_index) c.if-block-p-ge8.true

pub returns : goal.returns
returns c = end_good c.loop-l.invariant c.loop-l-test.false (c.in_ok-zeros_at.ensures bad_index) c.if-block-p-ge8.false
