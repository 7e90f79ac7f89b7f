-- A pair order leaves the block as it is; a removal leaves the lines that are counted.
use Rattle.order_record.proofs.Laws.Skeleton.{lines_there, skeleton_same, skeleton_kept}
use Rattle.order_record.proofs.measure.skeleton_size.Goals as goal

pub returns-then-removal-eq0 : goal.returns-then-removal-eq0
returns-then-removal-eq0 c =
    skeleton_same c.requires c.if-removal-eq0.true

pub lines_size-requires : goal.lines_size-requires
lines_size-requires c =
    lines_there c.requires

pub returns : goal.returns
returns c =
    skeleton_kept c.requires c.lines_size.ensures
