-- The bytes one by one. The loop's invariant: the numbers that are left are as small as all.
use mathlib.Core.Path.{sym}
use native.Mathlib.Omega.{arith}
use Rattle.card_runs.proofs.Laws.Back.{passed_few, judging_start, judging_over, judging_next, judging_done}
use Rattle.card_runs.proofs.bytes_right.Goals as goal

pub loop-byte-init : goal.loop-byte-init
loop-byte-init c =
    judging_start c.args.bytes.now

pub added_at-added-requires : goal.added_at-added-requires
added_at-added-requires c =
    c.loop-byte.invariant.passed.small

pub overflow_add-added : goal.overflow_add-added
overflow_add-added c =
    omega (arith, passed_few c.loop-byte.invariant.passed c.loop-byte-test.true c.wide-x.ensures c.added_at-added.ensures, c.wide-x.ensures, (c.type_inv.bytes c.loop-byte.byte-index).fits)

pub returns-then-added-x-gt65535 : goal.returns-then-added-x-gt65535
returns-then-added-x-gt65535 c =
    sym (judging_over c.loop-byte.invariant c.loop-byte-test.true c.wide-x.ensures c.added_at-added.ensures c.if-added-x-gt65535.true)

pub loop-byte-preserved : goal.loop-byte-preserved
loop-byte-preserved c =
    judging_next c.loop-byte.invariant c.loop-byte-test.true c.wide-x.ensures c.added_at-added.ensures c.if-added-x-gt65535.false

pub returns : goal.returns
returns c =
    sym (judging_done c.loop-byte.invariant c.loop-byte-test.false)
