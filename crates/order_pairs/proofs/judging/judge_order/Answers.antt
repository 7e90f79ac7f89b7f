-- The order's lines, and then whether they are neighbours after the words before it.
use native.Mathlib.Omega.{arith}
use Rattle.order_pairs.proofs.Laws.Word.{near_there, word, lower, no_line_lem, nothing_to_do, word_right}
use Rattle.order_pairs.proofs.judging.judge_order.Goals as goal

pub returns-then-site-pair-clause-number : goal.returns-then-site-pair-clause-number
returns-then-site-pair-clause-number c =
    no_line_lem c.requires.there.index c.args.list.now c.args.place (omega (arith, c.requires.place)) c.pair_at-pair.ensures c.if-site-pair.true

pub near_after-near-requires : goal.near_after-near-requires
near_after-near-requires c =
    let I = c.requires.there in
    near_there I.index I.reads I.at (lower (word c.args.list.now c.args.place) c.pair_at-pair.ensures) c.if-site-pair.false

pub returns-then-already_so-clause-number : goal.returns-then-already_so-clause-number
returns-then-already_so-clause-number c =
    nothing_to_do c.requires.there.index c.args.list.now c.args.place (omega (arith, c.requires.place)) c.pair_at-pair.ensures c.if-site-pair.false c.near_after-near.ensures c.already_so.ensures c.if-already_so.true

pub returns-clause-number : goal.returns-clause-number
returns-clause-number c =
    word_right c.requires.there.index c.args.list.now c.args.place (omega (arith, c.requires.place)) c.pair_at-pair.ensures c.if-site-pair.false c.near_after-near.ensures c.already_so.ensures c.if-already_so.false
