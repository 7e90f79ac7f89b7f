-- Its length, then the block: with the pores of the lines that stay, or copied.
use native.Mathlib.Omega.{arith}
use lib.ListN.{length-take, length-drop}
use Rattle.order_record.proofs.Laws.Extended.{same_size, segments_room, copied_extended, kept_extended_lem, kept_end}
use Rattle.order_record.proofs.put.segments_put.Goals as goal

pub extended_put-requires : goal.extended_put-requires
extended_put-requires c =
    segments_room c.requires c.if-removal-ne0.true (simp (length-take, length-drop) (omega (arith, c.requires.room, c.put_two-at.ensures.count)))

pub overflow_add-result : goal.overflow_add-result
overflow_add-result c =
    omega (arith, c.requires.small, kept_end c.requires c.if-removal-ne0.true c.extended_put.ensures, c.put_two-at.ensures.count)

pub copy-requires : goal.copy-requires
copy-requires c =
    simp (length-take, length-drop) (omega (arith, c.requires.room, same_size c.requires c.if-removal-ne0.false, c.put_two-at.ensures.count))

pub returns-then-removal-ne0 : goal.returns-then-removal-ne0
returns-then-removal-ne0 c =
    kept_extended_lem c.requires c.put_two-at.ensures c.if-removal-ne0.true c.extended_put.ensures

pub returns-else-removal-ne0 : goal.returns-else-removal-ne0
returns-else-removal-ne0 c =
    copied_extended c.requires c.put_two-at.ensures c.if-removal-ne0.false c.copy.ensures
