-- The rule, then the judge's verdict, then the bits of a direction.
use Rattle.std.proofs.Common.{arith, ◌≡◌}
use Rattle.std.specs.Prelude.{Ok, Err}
use mathlib.Core.Path.{sym}
use Rattle.std.proofs.lemmas.Result.{err_from_is_err_and}
use Rattle.rule_checking.proofs.Laws.{no_rule_lem, refuses, below, passed}
use Rattle.rule_checking.proofs.checked.Goals as goal

pub returns-in_default : goal.returns-in_default
returns-in_default c =
    rw c.into.ensures (no_rule_lem c.args.rule c.args.bytes.now (sym c.in_default.ensures))

pub returns-in_err-record : goal.returns-in_err-record
returns-in_err-record c =
    let p = err_from_is_err_and c.from_residual.result c.from_residual.ensures.1 in
    let z : c.judge.result ≡ Err c.in_err-record.field-0.0 = grind arith in
    rw (p.1, p.2) (refuses c.args.rule c.args.bytes.now (sym c.in-Some.ensures) (rw z at c.judge.ensures))

pub returns-then-record-least : goal.returns-then-record-least
returns-then-record-least c =
    let y : c.judge.result ≡ Ok c.in_ok-record.record = grind arith in
    rw c.into-then-record-least.ensures (below c.args.rule c.args.bytes.now (sym c.in-Some.ensures) (rw y at c.judge.ensures) c.if-record-least.true)

pub returns : goal.returns
returns c =
    let y : c.judge.result ≡ Ok c.in_ok-record.record = grind arith in
    passed c.args.rule c.args.bytes.now (sym c.in-Some.ensures) (rw y at c.judge.ensures) c.if-record-least.false
