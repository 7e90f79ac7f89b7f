-- The first three bytes are copied, and cell by cell a number is read.
use Rattle.std.proofs.Common.{◌≡◌, refl, arith}
use Rattle.bits.specs.ChoiceLaws.{within_high}
use Rattle.bits.proofs.Laws.Place.{all_bytes}
use Rattle.quality_values.proofs.Laws.Valued.{right_valued}
use Rattle.quality_values.proofs.Laws.Laying.{cell_within, value_byte, laying_next, laying_done}
use Rattle.quality_values.proofs.put_values.Goals as goal

pub sure-cell-requires : goal.sure-cell-requires
sure-cell-requires c =
    let W = right_valued c.requires.right (all_bytes c.args.payload.now (λ i. (c.type_inv.payload i).fits)) in
    let b = within_high 1 8 c.args.grid.bits c.requires.right.start.narrow in
    (c.requires.short, omega arith, omega (arith, cell_within W c.loop-i.i c.loop-i-test.true))

pub overflow_cast-out : goal.overflow_cast-out
overflow_cast-out c =
    omega (arith, value_byte 0 c.args.grid.bits (within_high 1 8 c.args.grid.bits c.requires.right.start.narrow) (c.sure-cell.ensures.0 0))

pub loop-i-preserved : goal.loop-i-preserved
loop-i-preserved c =
    record {
      place = omega (arith, c.sure-cell.ensures.1);
      laying = laying_next 0 c.loop-i.i c.copy-first.new.out c.loop-i.invariant.laying c.loop-i-test.true (omega arith) (omega arith) (rw c.loop-i.invariant.place at (c.sure-cell.ensures.0 0));
    }

pub returns : goal.returns
returns c =
    let bytes = all_bytes c.args.payload.now (λ i. (c.type_inv.payload i).fits) in
    let W = right_valued c.requires.right bytes in
    let z : c.loop-i.i ≡ c.args.grid.cells = omega arith in
    laying_done bytes c.copy-first.ensures (omega (arith, W.size)) (rw z at c.loop-i.invariant.laying) refl
