-- The judge's verdict, then the view.
use Rattle.std.proofs.Common.{arith, ◌≡◌, Some, None}
use Rattle.std.specs.Prelude.{Ok, Err}
use Rattle.std.proofs.lemmas.Result.{err_from_is_err_and}
use Rattle.outcome.specs.declared.refusal.Refusal.TheVariants.{NoView}
use Rattle.find_view.proofs.Laws.{judged, not_there, views_there, near_start, its_blocks, stands}
use Rattle.find_view.proofs.find_view.Goals as goal

pub returns-in_err-record : goal.returns-in_err-record
returns-in_err-record c =
    let p = err_from_is_err_and c.from_residual.result c.from_residual.ensures.1 in
    let z : c.judge.result ≡ Err c.in_err-record.field-0.0 = grind arith in
    rw (p.1, p.2) (judged c.args.view (rw z at c.judge.ensures))

pub view_named-requires : goal.view_named-requires
view_named-requires c =
    let y : c.judge.result ≡ Ok c.in_ok-record.record = grind arith in
    views_there c.args.view (rw y at c.judge.ensures)

pub returns-in_err-start : goal.returns-in_err-start
returns-in_err-start c =
    let y : c.judge.result ≡ Ok c.in_ok-record.record = grind arith in
    let p = err_from_is_err_and c.from_residual-in_err-start.result c.from_residual-in_err-start.ensures.1 in
    let z : c.view_named.result ≡ None = grind arith in
    let e : c.in_err-start.field-0.0 ≡ NoView = grind arith in
    let N = rw z at c.view_named.ensures in
    rw (p.1, p.2, e) (not_there c.args.view (rw y at c.judge.ensures) N)

pub overflow_add-start : goal.overflow_add-start
overflow_add-start c =
    let y : c.judge.result ≡ Ok c.in_ok-record.record = grind arith in
    let z : c.view_named.result ≡ Some c.in_ok-start.start = grind arith in
    let N = rw z at c.view_named.ensures in
    omega (arith, near_start c.args.view (rw y at c.judge.ensures) N)

pub blocks_at-requires : goal.blocks_at-requires
blocks_at-requires c =
    let y : c.judge.result ≡ Ok c.in_ok-record.record = grind arith in
    let z : c.view_named.result ≡ Some c.in_ok-start.start = grind arith in
    let N = rw z at c.view_named.ensures in
    its_blocks c.args.view (rw y at c.judge.ensures) N

pub returns : goal.returns
returns c =
    let y : c.judge.result ≡ Ok c.in_ok-record.record = grind arith in
    let z : c.view_named.result ≡ Some c.in_ok-start.start = grind arith in
    let N = rw z at c.view_named.ensures in
    stands c.args.view (rw y at c.judge.ensures) N c.blocks_at.ensures
