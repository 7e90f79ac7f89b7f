-- The record's length against its limit and the room.
use native.Mathlib.Omega.{arith}
use mathlib.Core.Path.{◌∙◌}
use Rattle.outcome.proofs.Laws.{answer_refused, answer_full, answer_given}
use Rattle.card_reading.proofs.Laws.{too_long_lem, short_enough, record_long}
use Rattle.card_reading.proofs.record_given.Goals as goal

pub returns-then-value : goal.returns-then-value
returns-then-value c =
    rw c.into.ensures (record { is = λ o e. answer_refused (λ xs. xs) _ c.args.out.now (e ∙ too_long_lem c.args.s c.args.value.now c.if-value.true) })

pub returns-then-out-value : goal.returns-then-out-value
returns-then-out-value c =
    rw c.into-then-out-value.ensures (record { is = λ o e. answer_full (λ xs. xs) _ c.args.out.now (e ∙ short_enough c.args.s c.args.value.now c.if-value.false) (omega (arith, c.if-out-value.true, record_long c.args.s c.args.value.now)) })

pub returns : goal.returns
returns c =
    let l = record_long c.args.s c.args.value.now in
    let p = c.record_put.ensures in
    record { is = λ o e. answer_given (λ xs. xs) _ c.args.out.now (e ∙ short_enough c.args.s c.args.value.now c.if-value.false) _ _ (omega (arith, l, c.if-out-value.false)) p.count p.is }
