-- The next line of the list in the block, or the highest that a word names, whichever is above; and what the last word about it says.
use native.Mathlib.Omega.{arith}
use Rattle.order_walk.proofs.Laws.Merge.{word_there, step_last, line_below, step_stays, step_word, step_named}
use Rattle.order_walk.proofs.merge.step_on.Goals as goal

pub by_word-requires : goal.by_word-requires
by_word-requires c =
    word_there c.requires (omega (arith, c.requires.more, c.if-old-eq0.true))

pub returns-then-old-eq0 : goal.returns-then-old-eq0
returns-then-old-eq0 c =
    step_last c.requires (omega (arith, c.if-old-eq0.true)) c.by_word.ensures

pub next_line-found-requires : goal.next_line-found-requires
next_line-found-requires c =
    let p = c.requires in
    record { narrow = p.narrow; short = p.short; more = omega (arith, c.if-old-eq0.false); value = p.value; behind = p.behind; at = p.at.at }

pub returns-then-bound-line : goal.returns-then-bound-line
returns-then-bound-line c =
    step_stays c.requires c.next_line-found.ensures (omega (arith, c.if-bound-line.true))

pub overflow_add-line : goal.overflow_add-line
overflow_add-line c =
    omega (arith, c.if-bound-line.false)

pub by_word-requires-then-line-bound : goal.by_word-requires-then-line-bound
by_word-requires-then-line-bound c =
    word_there c.requires (omega (arith, c.if-line-bound.true))

pub returns-then-line-bound : goal.returns-then-line-bound
returns-then-line-bound c =
    step_word c.requires c.next_line-found.ensures (omega (arith, c.if-line-bound.true)) c.by_word-then-line-bound.ensures

pub said_about-stays-requires : goal.said_about-stays-requires
said_about-stays-requires c =
    omega (arith, line_below c.requires c.next_line-found.ensures)

pub low_bound-bound-requires : goal.low_bound-bound-requires
low_bound-bound-requires c =
    omega (arith, line_below c.requires c.next_line-found.ensures)

pub returns : goal.returns
returns c =
    step_named c.requires c.next_line-found.ensures (omega (arith, c.if-line-bound.false)) (omega (arith, c.if-bound-line.false)) c.said_about-stays.ensures c.low_bound-bound.ensures
