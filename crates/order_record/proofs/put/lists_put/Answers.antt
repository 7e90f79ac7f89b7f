-- Its length, then the block, where there is one.
use native.Mathlib.Omega.{arith}
use lib.ListN.{length-take, length-drop}
use Rattle.order_record.proofs.Laws.Index.{no_lists, put_there, some_lists, index_end}
use Rattle.order_record.proofs.put.lists_put.Goals as goal

pub returns-then-block-eq0 : goal.returns-then-block-eq0
returns-then-block-eq0 c =
    no_lists c.requires c.put_two-at.ensures c.if-block-eq0.true

pub index_put-requires : goal.index_put-requires
index_put-requires c =
    put_there c.requires c.put_two-at.ensures c.if-block-eq0.false (simp (length-take, length-drop) (omega (arith, c.requires.room, c.put_two-at.ensures.count)))

pub overflow_add-result : goal.overflow_add-result
overflow_add-result c =
    omega (arith, c.requires.small, index_end c.requires c.if-block-eq0.false c.index_put.ensures, c.put_two-at.ensures.count)

pub returns : goal.returns
returns c =
    some_lists c.requires c.put_two-at.ensures c.if-block-eq0.false c.index_put.ensures
