-- The line that the judge has found is there: so are its parts, each where the code reads it. What the code lays of them is then
-- that line's field.
use native.Mathlib.Omega.{arith}
use Rattle.outcome.specs.Refusals.{bad_line}
use Rattle.read_blocks.proofs.Laws.Line.{start_there, count_there, finish_there, parts_there, line_laid}
use borrow.Author.Rules.{rules}
use Rattle.read_blocks.proofs.line.line_out.Goals as goal

pub end_sure-first-requires : goal.end_sure-first-requires
end_sure-first-requires c =
    (c.requires.short, c.requires.narrow.b, c.requires.narrow.c, start_there c.args.w c.requires.reads)

pub sure-field-requires : goal.sure-field-requires
sure-field-requires c =
    let start = c.end_sure-first.ensures in
    (c.requires.short, search rules, count_there c.args.w c.requires.reads start)

pub overflow_mul-at : goal.overflow_mul-at
overflow_mul-at c =
    let start = c.end_sure-first.ensures in
    let count = c.sure-field.ensures.0 bad_line in
    omega (arith, c.requires.short, finish_there c.args.w c.requires.reads start count)

pub overflow_add-at : goal.overflow_add-at
overflow_add-at c =
    let start = c.end_sure-first.ensures in
    let count = c.sure-field.ensures.0 bad_line in
    omega (arith, c.requires.short, finish_there c.args.w c.requires.reads start count)

pub end_sure-last-requires : goal.end_sure-last-requires
end_sure-last-requires c =
    let start = c.end_sure-first.ensures in
    let count = c.sure-field.ensures.0 bad_line in
    (c.requires.short, c.requires.narrow.b, c.requires.narrow.c, finish_there c.args.w c.requires.reads start count)

pub parts_out-written-requires : goal.parts_out-written-requires
parts_out-written-requires c =
    let start = c.end_sure-first.ensures in
    let count = c.sure-field.ensures.0 bad_line in
    let finish = c.end_sure-last.ensures in
    parts_there c.args.w c.requires.reads start count finish c.requires.narrow c.requires.short c.requires.room

pub returns : goal.returns
returns c =
    let start = c.end_sure-first.ensures in
    let count = c.sure-field.ensures.0 bad_line in
    let finish = c.end_sure-last.ensures in
    line_laid c.args.w c.requires.reads start count finish c.parts_out-written.ensures
