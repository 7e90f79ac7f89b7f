-- Test by test: fields and grammar, the values, the record's size.
use Rattle.std.proofs.lemmas.Result.{err_from_is_err_and}
use native.Mathlib.Omega.{arith}
use mathlib.Core.Path.{subst}
use Rattle.outcome.specs.declared.refusal.Refusal.TheVariants.{BadValue}
use Rattle.check_values.specs.Sheet.{ValuesAre}
use Rattle.writing.specs.JudgedSheet.{InOrder}
use Rattle.writing.proofs.Laws.{of_ok, of_err, not_right, over, right}
use Rattle.writing.proofs.judge_sheet.Goals as goal

pub returns-in_err-record : goal.returns-in_err-record
returns-in_err-record c =
    let s = c.args.sheet.now in
    let t = subst (InOrder s) c.if-not-in_order.false c.in_order.ensures in
    let p = err_from_is_err_and c.from_residual.result c.from_residual.ensures.1 in
    let (e, w) = of_err (ValuesAre s) BadValue c.values.result c.in_err-record.ensures.value c.values.ensures in
    rw (p.1, p.2, e) (not_right s t (w t.value t.reads))

pub returns-then-record-gt-MOST_BYTES : goal.returns-then-record-gt-MOST_BYTES
returns-then-record-gt-MOST_BYTES c =
    let s = c.args.sheet.now in
    let t = subst (InOrder s) c.if-not-in_order.false c.in_order.ensures in
    let r = of_ok (ValuesAre s) BadValue c.values.result c.in_ok-record.ensures.value c.values.ensures in
    over s t (r t.value t.reads) (omega (arith, c.if-record-gt-MOST_BYTES.true))

pub returns : goal.returns
returns c =
    let s = c.args.sheet.now in
    let t = subst (InOrder s) c.if-not-in_order.false c.in_order.ensures in
    let r = of_ok (ValuesAre s) BadValue c.values.result c.in_ok-record.ensures.value c.values.ensures in
    right s t (r t.value t.reads) (omega (arith, c.if-record-gt-MOST_BYTES.false))
