-- Its length, then the block: copied, or with the lines that are left.
use native.Mathlib.Omega.{arith}
use lib.ListN.{length-take, length-drop}
use Rattle.order_record.proofs.Laws.Skeleton.{same_size, lines_room, copied_skeleton, kept_skeleton, kept_end}
use Rattle.order_record.proofs.put.skeleton_put.Goals as goal

pub copy-requires : goal.copy-requires
copy-requires c =
    simp (length-take, length-drop) (omega (arith, c.requires.room, same_size c.requires c.if-removal-eq0.true, c.put_two-at.ensures.count))

pub lines_put-requires : goal.lines_put-requires
lines_put-requires c =
    lines_room c.requires (simp (length-take, length-drop) (omega (arith, c.requires.room, c.put_two-at.ensures.count)))

pub overflow_add-result-else-removal-eq0 : goal.overflow_add-result-else-removal-eq0
overflow_add-result-else-removal-eq0 c =
    omega (arith, c.requires.small, kept_end c.requires c.lines_put.ensures, c.put_two-at.ensures.count)

pub returns-then-removal-eq0 : goal.returns-then-removal-eq0
returns-then-removal-eq0 c =
    copied_skeleton c.requires c.put_two-at.ensures c.if-removal-eq0.true c.copy.ensures

pub returns-else-removal-eq0 : goal.returns-else-removal-eq0
returns-else-removal-eq0 c =
    kept_skeleton c.requires c.put_two-at.ensures c.lines_put.ensures
