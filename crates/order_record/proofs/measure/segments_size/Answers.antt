-- A pair order leaves the block as it is; a removal leaves the pores of the lines that stay.
use Rattle.order_record.proofs.Laws.Extended.{extended_there, extended_same, extended_kept}
use Rattle.order_record.proofs.measure.segments_size.Goals as goal

pub returns-then-removal-eq0 : goal.returns-then-removal-eq0
returns-then-removal-eq0 c =
    extended_same c.requires c.if-removal-eq0.true

pub extended_size-requires : goal.extended_size-requires
extended_size-requires c =
    extended_there c.requires c.if-removal-eq0.false

pub returns : goal.returns
returns c =
    extended_kept c.requires c.if-removal-eq0.false c.extended_size.ensures
