-- The new record is measured and held against the limits; it is refused, or it is put.
use native.Mathlib.Omega.{arith}
use mathlib.Core.Path.{sym}
use Rattle.std.proofs.lemmas.Result.{err_from_is_err_and}
use Rattle.order_carry.proofs.Laws.Held.{size_zero}
use Rattle.order_carry.proofs.Laws.Carried.{not_carried, carried}
use Rattle.order_carry.proofs.carry_out.Goals as goal

pub returns-in_err-hold_size : goal.returns-in_err-hold_size
returns-in_err-hold_size c =
    let p = err_from_is_err_and c.from_residual.result c.from_residual.ensures.1 in
    let h = c.in_err-hold_size.ensures in
    rw (p.1, p.2) (not_carried c.measure-sizes.ensures _ c.args.place c.args.out.now h.number h.place)

pub put-length-requires : goal.put-length-requires
put-length-requires c =
    let p = c.requires in
    let z = size_zero _ _ (sym c.in_ok-hold_size.ensures.number) in
    record { placed = p; sizes = c.measure-sizes.ensures.is p.value p.place p.reads p.at; small = omega (arith, z.0); room = omega (arith, z.1) }

pub returns : goal.returns
returns c =
    carried c.measure-sizes.ensures c.args.place (sym c.in_ok-hold_size.ensures.number) c.put-length.ensures
