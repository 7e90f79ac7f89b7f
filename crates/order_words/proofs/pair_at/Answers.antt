-- Three numbers are read; the higher of the two lines stands first.
use Rattle.order_words.proofs.Laws.Listed.{pair_read}
use Rattle.order_words.proofs.pair_at.Goals as goal

pub returns : goal.returns
returns c =
    pair_read c.args.list.now c.args.i c.requires c.two_at.ensures c.two_at-a.ensures c.two_at-b.ensures c.max.ensures c.min.ensures
