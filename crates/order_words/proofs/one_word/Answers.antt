-- The lines go into two bytes each.
use Rattle.order_words.proofs.Laws.Listed.{one_word}
use Rattle.order_words.proofs.one_word.Goals as goal

pub returns : goal.returns
returns c =
    one_word c.args.a c.args.b c.args.joins c.from.ensures
