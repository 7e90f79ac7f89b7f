-- What halving finds among the numbers two by two, it finds among the lines.
use Rattle.std.proofs.Common.{rules}
use Rattle.std.proofs.lemmas.List.Sorted.{answers_always}
use Rattle.order_removal.proofs.Laws.Search.{number, rank_found}
use Rattle.order_removal.proofs.rank_of.Goals as goal

pub returns : goal.returns
returns c =
    let s = c.binary_search_by_key in
    rank_found c.args.removal.now c.requires c.args.n c.as_chunks.ensures.front s.result s.ensures.bound (s.ensures.position number (answers_always _ _ _ (λ f a r g h. search rules)))
