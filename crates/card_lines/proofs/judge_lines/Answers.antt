-- What stops a read or a test is a fault of its line, and so of the block; a turn of the loop keeps what it reads.
use native.Mathlib.Omega.{arith}
use native.Mathlib.Nat.{mul-le-mul_right}
use Prim.Native.Nat.{ℕ, ◌≤◌}
use mathlib.Core.Path.{◌≡◌, refl}
use Rattle.std.proofs.Common.{rules}
use Rattle.std.specs.Prelude.{Ok, Err}
use Rattle.std.proofs.lemmas.Result.{err_from_is_err_and}
use Rattle.bits.proofs.Laws.Reads.{known, below}
use Rattle.outcome.specs.Refusals.{bad_line}
use Rattle.outcome.specs.declared.refusal.Refusal.TheVariants.{BadLine}
use Rattle.judge_views.proofs.Laws.Line.{dirty, clean, lines_start, lines_over, line_no_start, line_no_rest, line_turn, lines_dirt, lines_done}
use Rattle.card_lines.proofs.Laws.{block_bad, block_good}
use Rattle.card_lines.proofs.judge_lines.Goals as goal

pub loop-p-init : goal.loop-p-init
loop-p-init c = (0, lines_start _ _ _ c.start-p.ensures)

pub returns-then-n-eq-MOST_LINES : goal.returns-then-n-eq-MOST_LINES
returns-then-n-eq-MOST_LINES c =
    let L = c.loop-p.invariant.1 in
    known (search rules) (block_bad _ _ L.within (lines_over L c.if-n-eq-MOST_LINES.true c.loop-p-test.true))

pub returns-then-left-least : goal.returns-then-left-least
returns-then-left-least c =
    let L = c.loop-p.invariant.1 in
    known (search rules)
    (block_bad _ _ L.within (line_no_start L (omega (arith, c.if-n-eq-MOST_LINES.false, L.few)) c.loop-p-test.true (omega (arith, c.if-left-least.true))))

pub overflow_mul-rest : goal.overflow_mul-rest
overflow_mul-rest c =
    let h : c.sure-codes.result.value ≤ 255 = omega (arith, below bad_line 8 (c.sure-codes.ensures.0 bad_line)) in
    omega (arith, mul-le-mul_right c.args.w.k h, c.requires)

pub overflow_add-rest : goal.overflow_add-rest
overflow_add-rest c =
    let h : c.sure-codes.result.value ≤ 255 = omega (arith, below bad_line 8 (c.sure-codes.ensures.0 bad_line)) in
    omega (arith, mul-le-mul_right c.args.w.k h, c.requires)

pub returns-then-end-p : goal.returns-then-end-p
returns-then-end-p c =
    let L = c.loop-p.invariant.1 in
    let K = c.sure-codes.ensures.0 bad_line in
    known (search rules)
    (block_bad _ _ L.within (line_no_rest L (omega (arith, c.if-n-eq-MOST_LINES.false, L.few)) c.loop-p-test.true (omega arith) K c.sure-codes.result.value c.sure-codes.result.next.at refl K.within c.if-end-p.true))

pub loop-p-preserved : goal.loop-p-preserved
loop-p-preserved c =
    let L = c.loop-p.invariant.1 in
    let K = c.sure-codes.ensures.0 bad_line in
    (_, line_turn L (omega (arith, c.if-n-eq-MOST_LINES.false, L.few)) c.loop-p-test.true (omega arith) K c.sure-codes.result.value c.sure-codes.result.next.at refl K.within c.if-end-p.false)

pub returns-in_err-map_err : goal.returns-in_err-map_err
returns-in_err-map_err c =
    let p = err_from_is_err_and c.from_residual.result c.from_residual.ensures.1 in
    let h : (q : ℕ) × (c.zeros_at.result ≡ Err q) × (c.in_err-map_err.field-0.0 ≡ record { why = BadLine; place = q }) = search rules in
    let z = dirty {q = h.0} h.1 (c.zeros_at.ensures bad_line) in
    rw (p.1, p.2) (rw h.2 (block_bad _ _ z.within (lines_dirt c.loop-p.invariant.1 c.loop-p-test.false {q = h.0} z)))

pub returns : goal.returns
returns c =
    let h : c.zeros_at.result ≡ Ok tt = search rules in
    lines_done c.loop-p.invariant.1 c.loop-p-test.false (clean h (c.zeros_at.ensures bad_line)) λ ls u l t y. block_good _ _ ls u l y
