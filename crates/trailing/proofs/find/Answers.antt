-- The view, and then the line: lines are passed up to the one that is asked for; there is none, or its walk is found.
use native.Mathlib.Omega.{arith}
use mathlib.Core.Path.{ap, ap₂, ◌∙◌}
use lib.ListN.{length}
use Rattle.std.proofs.lemmas.Result.{err_from_is_err_and}
use Rattle.format.specs.Places.{view_at, line_at}
use Rattle.trail.specs.Trail.{trail}
use Rattle.find_parts.proofs.Laws.Blocks.{lines_there}
use Rattle.find_parts.proofs.Laws.Lines.{passed_within, passed_all, passed_next, passed_there}
use Rattle.find_view.proofs.Laws.{short, its_lines, its_widths}
use Rattle.trailing.proofs.Laws.{half_is, refused_is, no_line_lem, has_line}
use Rattle.trailing.proofs.find.Goals as goal

pub of-block-requires : goal.of-block-requires
of-block-requires c = let b = c.in_ok-found.ensures.blocks.lines in (b.from, b.within)

pub pass_lines-passed-requires : goal.pass_lines-passed-requires
pass_lines-passed-requires c =
    let h = c.in_ok-found.ensures in rw c.of-block.ensures (lines_there (its_widths h) (short h) (its_lines h))

pub overflow_mul-block : goal.overflow_mul-block
overflow_mul-block c =
    let h = c.in_ok-found.ensures in rw c.of-block.ensures (omega (arith, (lines_there (its_widths h) (short h) (its_lines h)).short))

pub overflow_sub-block : goal.overflow_sub-block
overflow_sub-block c =
    let passed = rw c.of-block.ensures at c.pass_lines-passed.ensures in
    rw c.of-block.ensures (passed_within passed (its_lines c.in_ok-found.ensures).value)

pub returns-then-block-passed-lt8 : goal.returns-then-block-passed-lt8
returns-then-block-passed-lt8 c =
    let h = c.in_ok-found.ensures in
    let passed = rw c.of-block.ensures at c.pass_lines-passed.ensures in
    let few = rw c.of-block.ensures at c.if-block-passed-lt8.true in
    rw c.into.ensures (no_line_lem c.args.line h (passed_all passed (its_lines h).value few))

pub walk_at-walk-requires : goal.walk_at-walk-requires
walk_at-walk-requires c =
    let h = c.in_ok-found.ensures in
    let l = lines_there (its_widths h) (short h) (its_lines h) in
    let passed = rw c.of-block.ensures at c.pass_lines-passed.ensures in
    let next = passed_next passed (its_lines h).value (rw c.of-block.ensures at c.if-block-passed-lt8.false) in
    let (lo, hi) = half_is h in
    (rw c.of-block.ensures (record { narrow = l.narrow; short = l.short; value = next.value; behind = next.behind; reads = next.reads }), lo, hi)

pub count_drawn-requires : goal.count_drawn-requires
count_drawn-requires c =
    let h = c.in_ok-found.ensures in
    let passed = rw c.of-block.ensures at c.pass_lines-passed.ensures in
    let next = passed_next passed (its_lines h).value (rw c.of-block.ensures at c.if-block-passed-lt8.false) in
    let walk = rw c.of-block.ensures at c.walk_at-walk.ensures in
    let ready = (walk.is next.value next.behind next.reads).ready in
    record { low = ready.low; high = ready.high; short = ready.short; there = ready.there }

pub returns-in_err-found : goal.returns-in_err-found
returns-in_err-found c =
    let p = err_from_is_err_and c.from_residual.result c.from_residual.ensures.1 in
    rw (p.1, p.2) (refused_is c.args.line c.in_err-found.ensures)

pub returns : goal.returns
returns c =
    let h = c.in_ok-found.ensures in
    let few = rw c.of-block.ensures at c.if-block-passed-lt8.false in
    let passed = rw c.of-block.ensures at c.pass_lines-passed.ensures in
    let walk = rw c.of-block.ensures at c.walk_at-walk.ensures in
    let next = passed_next passed (its_lines h).value few in
    let (k, v) = passed_there passed (its_lines h).value few in
    let d = rw (ap₂ trail h.scale v) at (walk.is next.value next.behind next.reads) in
    record {
      value = trail h.value.head.scale (line_at (view_at h.value h.place) c.args.line);
      is = has_line c.args.line h k;
      draws = d;
      drawn = c.count_drawn.ensures ∙ ap length d.is;
    }
