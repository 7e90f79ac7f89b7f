-- Each of the first three bytes has its range, and the columns and the rows are rounded up.
use Rattle.std.proofs.Common.{arith}
use Rattle.quality_cells.proofs.Laws.Start.{started}
use Rattle.quality_cells.proofs.grid_of.Goals as goal

pub returns : goal.returns
returns c =
    started c.args.image c.args.bytes.now c.requires (omega arith) c.wide-width.ensures c.wide-height.ensures c.wide-bits.ensures
    (omega arith, omega (arith, c.type_inv.bytes 0)) (omega arith, omega (arith, c.type_inv.bytes 1)) (omega arith, omega arith)
    c.div_ceil.ensures c.div_ceil-2.ensures
