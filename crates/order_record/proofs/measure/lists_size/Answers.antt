-- No index stays none; one that is there is sized.
use Rattle.order_record.proofs.Laws.Index.{lists_none, with_index, index_there, lists_some}
use Rattle.order_record.proofs.measure.lists_size.Goals as goal

pub returns-then-block-eq0 : goal.returns-then-block-eq0
returns-then-block-eq0 c =
    lists_none c.requires c.if-block-eq0.true

pub index_size-requires : goal.index_size-requires
index_size-requires c =
    with_index c.requires c.if-block-eq0.false λ i e. index_there c.requires e

pub returns : goal.returns
returns c =
    lists_some c.requires c.if-block-eq0.false c.index_size.ensures
