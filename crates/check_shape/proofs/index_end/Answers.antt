-- Test by test: an 04 or none, its length, its lists.
use native.Mathlib.Omega.{arith}
use Rattle.check_shape.proofs.Laws.Stand.{begun_there}
use Rattle.check_shape.proofs.Laws.Index.{lists_wrong, count_wrong, index_right}
use Rattle.check_shape.proofs.index_end.Goals as goal

pub pass-requires : goal.pass-requires
pass-requires c =
    let B = begun_there 4 1 c.begins.ensures c.if-not-begins.false c.requires.stand in (record { value = B.others; stand = B.behind }, omega arith)

pub returns-in_err-lists : goal.returns-in_err-lists
returns-in_err-lists c =
    rw c.from_residual.ensures (λ fs h. let B = begun_there 4 1 c.begins.ensures c.if-not-begins.false h in lists_wrong c.args.lines B (c.in_err-lists.ensures B.others B.behind))

pub returns-then-lists-lines : goal.returns-then-lists-lines
returns-then-lists-lines c =
    λ fs h. let B = begun_there 4 1 c.begins.ensures c.if-not-begins.false h in count_wrong c.args.lines B (c.in_ok-lists.ensures B.others B.behind) c.if-lists-lines.true

pub returns : goal.returns
returns c =
    λ fs h. let B = begun_there 4 1 c.begins.ensures c.if-not-begins.false h in index_right c.args.lines B (c.in_ok-lists.ensures B.others B.behind) c.if-lists-lines.false
