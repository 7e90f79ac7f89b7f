-- The first two numbers, and then the lines.
use Rattle.pores_numbers.proofs.Laws.Front.{not_whole, no_front, large_resolution, e_low, e_high, numbers_judged}
use Rattle.pores_numbers.proofs.judge_numbers.Goals as goal

pub returns-then-values-ne0 : goal.returns-then-values-ne0
returns-then-values-ne0 c =
    not_whole c.args.lines c.args.values.now c.if-values-ne0.true

pub returns-then-values-lt8 : goal.returns-then-values-lt8
returns-then-values-lt8 c =
    no_front c.args.lines c.args.values.now c.if-values-ne0.false c.if-values-lt8.true

pub returns-then-four_at-gt65535 : goal.returns-then-four_at-gt65535
returns-then-four_at-gt65535 c =
    large_resolution c.args.lines c.args.values.now c.if-values-ne0.false c.if-values-lt8.false c.four_at.ensures c.if-four_at-gt65535.true

pub returns-then-e-lt2 : goal.returns-then-e-lt2
returns-then-e-lt2 c =
    e_low c.args.lines c.args.values.now c.if-values-ne0.false c.if-values-lt8.false c.four_at.ensures c.four_at-e.ensures c.if-four_at-gt65535.false c.if-e-lt2.true

pub returns-then-e-gt8 : goal.returns-then-e-gt8
returns-then-e-gt8 c =
    e_high c.args.lines c.args.values.now c.if-values-ne0.false c.if-values-lt8.false c.four_at.ensures c.four_at-e.ensures c.if-four_at-gt65535.false c.if-e-gt8.true

pub judge_lines-requires : goal.judge_lines-requires
judge_lines-requires c =
    record { whole = c.if-values-ne0.false; front = c.if-values-lt8.false; low = c.if-e-lt2.false; high = c.if-e-gt8.false }

pub returns : goal.returns
returns c =
    numbers_judged c.args.lines c.args.values.now c.if-values-ne0.false c.if-values-lt8.false c.four_at.ensures c.four_at-e.ensures c.if-four_at-gt65535.false c.if-e-lt2.false c.if-e-gt8.false c.judge_lines.result c.judge_lines.ensures
