-- List by list. The invariant is which lists are left, whatever index the block has.
use Rattle.std.proofs.Common.{◌≡◌, ◌<◌, length, arith}
use Rattle.bits.proofs.Laws.Reads.{at_place}
use Rattle.outcome.specs.Refusals.{bad_index}
use Rattle.find_parts.proofs.Laws.Blocks.{no_index_lem}
use Rattle.list_numbers.proofs.Laws.Index.{counted_none, counted_next, counted_within, count_there, counted_all}
use Rattle.list_numbers.proofs.count_pairs.Goals as goal

pub returns-then-is_empty : goal.returns-then-is_empty
returns-then-is_empty c =
    let e : length c.args.block.now ≡ 0 = grind arith in
    record { is = λ o u h. rw (no_index_lem c.args.lines c.args.block.now e h) }

pub loop-init : goal.loop-init
loop-init c = counted_none c.args.lines c.args.block.now (at_place c.start.ensures (c.sure-width.ensures.0 bad_index))

pub sure-count-requires : goal.sure-count-requires
sure-count-requires c =
    let pre = c.requires in
    let full : 0 < length c.args.block.now = grind arith in
    let y = c.loop.invariant in (
      pre.short,
      omega (arith, (counted_within c.args.lines c.args.block.now full pre.reads y).2),
      count_there c.args.lines c.args.block.now full pre.reads y c.loop-test.true,
    )

pub overflow_add-pairs : goal.overflow_add-pairs
overflow_add-pairs c =
    let pre = c.requires in
    let full : 0 < length c.args.block.now = grind arith in
    let next = counted_next c.args.lines c.args.block.now c.loop.invariant c.loop-test.true (c.sure-count.ensures.0 bad_index) in
    let (small, within, _) = counted_within c.args.lines c.args.block.now full pre.reads next in
    omega (arith, pre.short, small, within)

pub overflow_mul-at : goal.overflow_mul-at
overflow_mul-at c =
    let pre = c.requires in
    let full : 0 < length c.args.block.now = grind arith in
    let next = counted_next c.args.lines c.args.block.now c.loop.invariant c.loop-test.true (c.sure-count.ensures.0 bad_index) in
    let (small, within, _) = counted_within c.args.lines c.args.block.now full pre.reads next in
    omega (arith, pre.short, small, within)

pub overflow_add-at : goal.overflow_add-at
overflow_add-at c =
    let pre = c.requires in
    let full : 0 < length c.args.block.now = grind arith in
    let next = counted_next c.args.lines c.args.block.now c.loop.invariant c.loop-test.true (c.sure-count.ensures.0 bad_index) in
    let (small, within, _) = counted_within c.args.lines c.args.block.now full pre.reads next in
    omega (arith, pre.short, small, within)

pub overflow_add-at-in-loop : goal.overflow_add-at-in-loop
overflow_add-at-in-loop c =
    let pre = c.requires in
    let full : 0 < length c.args.block.now = grind arith in
    let next = counted_next c.args.lines c.args.block.now c.loop.invariant c.loop-test.true (c.sure-count.ensures.0 bad_index) in
    let (small, within, _) = counted_within c.args.lines c.args.block.now full pre.reads next in
    omega (arith, pre.short, small, within)

pub loop-preserved : goal.loop-preserved
loop-preserved c = counted_next c.args.lines c.args.block.now c.loop.invariant c.loop-test.true (c.sure-count.ensures.0 bad_index)

pub returns : goal.returns
returns c =
    let full : 0 < length c.args.block.now = grind arith in
    record { is = λ o u h. counted_all c.args.lines c.args.block.now full h c.loop.invariant (omega arith) }
