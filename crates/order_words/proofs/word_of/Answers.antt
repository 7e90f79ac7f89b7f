-- Back from the last word. The loop's invariant: what all words say, those from here back say.
use native.Mathlib.Omega.{arith}
use Rattle.order_words.proofs.Laws.Said.{back_start, back_done, back_next, back_found}
use Rattle.order_words.proofs.word_of.Goals as goal

pub loop-i-init : goal.loop-i-init
loop-i-init c =
    back_start

pub loop-i-preserved : goal.loop-i-preserved
loop-i-preserved c =
    back_next c.loop-i.invariant c.loop-i-test.true c.requires c.pair_at-pair.ensures c.else-pair-high.either

pub returns-then-pair-low : goal.returns-then-pair-low
returns-then-pair-low c =
    back_found c.loop-i.invariant c.loop-i-test.true c.requires c.pair_at-pair.ensures c.if-pair-high.true c.if-pair-low.true

pub returns : goal.returns
returns c =
    back_done c.loop-i.invariant (omega arith)
