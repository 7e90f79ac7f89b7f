-- Test by test: the 02, the lines, the index, the segments. Each stands where the one before has ended.
use native.Mathlib.Omega.{arith}
use Rattle.sheet.specs.Grammar.{rest, index_rest}
use Rattle.check_shape.proofs.Laws.Stand.{begun_there}
use Rattle.check_shape.proofs.Laws.View.{lines_wrong, too_many, index_wrong, segments_wrong, view_right_lem}
use Rattle.check_shape.proofs.view_end.Goals as goal

pub pass-requires : goal.pass-requires
pass-requires c =
    let B = begun_there 2 8 c.begins.ensures c.if-not-begins.false c.requires.stand in (record { value = B.others; stand = B.behind }, omega arith)

pub returns-in_err-lines : goal.returns-in_err-lines
returns-in_err-lines c =
    rw c.from_residual.ensures (λ fs h. let B = begun_there 2 8 c.begins.ensures c.if-not-begins.false h in lines_wrong B (c.in_err-lines.ensures B.others B.behind))

pub returns-then-lines-gt-MOST_LINES : goal.returns-then-lines-gt-MOST_LINES
returns-then-lines-gt-MOST_LINES c =
    λ fs h. let B = begun_there 2 8 c.begins.ensures c.if-not-begins.false h in too_many B (c.in_ok-lines.ensures B.others B.behind) c.if-lines-gt-MOST_LINES.true

pub index_end-requires : goal.index_end-requires
index_end-requires c =
    let B = begun_there 2 8 c.begins.ensures c.if-not-begins.false c.requires.stand in
    record { value = rest 3 B.others; stand = (c.in_ok-lines.ensures B.others B.behind).behind }

pub returns-in_err-index : goal.returns-in_err-index
returns-in_err-index c =
    rw c.from_residual-in_err-index.ensures λ fs h.
    let B = begun_there 2 8 c.begins.ensures c.if-not-begins.false h in
    let L = c.in_ok-lines.ensures B.others B.behind in
    index_wrong B L (c.in_err-index.ensures (rest 3 B.others) L.behind)

pub pass-requires-2 : goal.pass-requires-2
pass-requires-2 c =
    let B = begun_there 2 8 c.begins.ensures c.if-not-begins.false c.requires.stand in
    let L = c.in_ok-lines.ensures B.others B.behind in
    (record { value = index_rest (rest 3 B.others); stand = (c.in_ok-index.ensures (rest 3 B.others) L.behind).behind }, omega arith)

pub returns-in_err-segments : goal.returns-in_err-segments
returns-in_err-segments c =
    rw c.from_residual-in_err-segments.ensures λ fs h.
    let B = begun_there 2 8 c.begins.ensures c.if-not-begins.false h in
    let L = c.in_ok-lines.ensures B.others B.behind in
    let I = c.in_ok-index.ensures (rest 3 B.others) L.behind in
    segments_wrong B L I (c.in_err-segments.ensures (index_rest (rest 3 B.others)) I.behind)

pub returns : goal.returns
returns c =
    λ fs h.
    let B = begun_there 2 8 c.begins.ensures c.if-not-begins.false h in
    let L = c.in_ok-lines.ensures B.others B.behind in
    let I = c.in_ok-index.ensures (rest 3 B.others) L.behind in
    view_right_lem B L I c.if-lines-gt-MOST_LINES.false (c.in_ok-segments.ensures (index_rest (rest 3 B.others)) I.behind)
