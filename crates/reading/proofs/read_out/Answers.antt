-- The judge's verdict, and then the writer's bytes.
use Rattle.std.proofs.Common.{arith, ◌≡◌}
use Rattle.std.specs.Prelude.{Ok, Err}
use Rattle.std.proofs.lemmas.Result.{err_from_is_err_and}
use Rattle.reading.proofs.Laws.{refuses, no_room_lem, there, written}
use Rattle.reading.proofs.read_out.Goals as goal

pub returns-in_err-record : goal.returns-in_err-record
returns-in_err-record c =
    let p = err_from_is_err_and c.from_residual.result c.from_residual.ensures.1 in
    let z : c.judge.result ≡ Err c.in_err-record.field-0.0 = grind arith in
    rw (p.1, p.2) (refuses c.args.bytes.now c.args.sheet.now (rw z at c.judge.ensures))

pub returns-then-sheet-record : goal.returns-then-sheet-record
returns-then-sheet-record c =
    let y : c.judge.result ≡ Ok c.in_ok-record.record = grind arith in
    rw c.into.ensures (no_room_lem c.args.bytes.now c.args.sheet.now (rw y at c.judge.ensures) c.if-sheet-record.true)

pub sheet_out-requires : goal.sheet_out-requires
sheet_out-requires c =
    let y : c.judge.result ≡ Ok c.in_ok-record.record = grind arith in
    there c.args.bytes.now c.args.sheet.now (rw y at c.judge.ensures) c.if-sheet-record.false

pub returns : goal.returns
returns c =
    let y : c.judge.result ≡ Ok c.in_ok-record.record = grind arith in
    written c.args.bytes.now c.args.sheet.now (rw y at c.judge.ensures) c.if-sheet-record.false c.sheet_out.ensures
