-- The judge of the sheet, and then the writer's bytes.
use Rattle.std.proofs.lemmas.Result.{err_from_is_err_and}
use native.Mathlib.Omega.{arith}
use Rattle.bits.proofs.Laws.Place.{all_bytes}
use Rattle.writing.proofs.Laws.{refuses, no_room_lem, record_there, laid}
use Rattle.writing.proofs.write_out.Goals as goal

pub returns-in_err-record : goal.returns-in_err-record
returns-in_err-record c =
    let p = err_from_is_err_and c.from_residual.result c.from_residual.ensures.1 in
    rw (p.1, p.2) (refuses c.args.sheet.now c.args.bytes.now c.in_err-record.ensures)

pub returns-then-bytes-record : goal.returns-then-bytes-record
returns-then-bytes-record c =
    rw c.into.ensures (no_room_lem c.args.sheet.now c.args.bytes.now (all_bytes c.args.sheet.now (λ i. (c.type_inv.sheet i).fits)) c.in_ok-record.ensures (omega (arith, c.if-bytes-record.true)))

pub record_out-requires : goal.record_out-requires
record_out-requires c =
    record_there c.args.sheet.now c.args.bytes.now (all_bytes c.args.sheet.now (λ i. (c.type_inv.sheet i).fits)) c.in_ok-record.ensures (omega (arith, c.if-bytes-record.false))

pub returns : goal.returns
returns c =
    laid c.args.sheet.now c.args.bytes.now (all_bytes c.args.sheet.now (λ i. (c.type_inv.sheet i).fits)) c.in_ok-record.ensures (omega (arith, c.if-bytes-record.false)) c.record_out.ensures
