-- The lists are measured at the block's width; their largest number gives the new one.
use native.Mathlib.Omega.{arith}
use mathlib.Core.Path.{◌≡◌, subst}
use Prim.Native.Nat.{ℕ}
use Rattle.bits.specs.Codec.{field_dec}
use Rattle.bits.specs.Reads.{Reads, found}
use Rattle.outcome.specs.Refusals.{bad_index}
use Rattle.find_parts.proofs.Laws.Index.{width_is_lem}
use Rattle.order_walk.proofs.Laws.Block.{before, width_there, width_narrow, as_many, lists_stand}
use Rattle.order_lists.proofs.Laws.Index.{sizes_small, product_small, sized}
use Rattle.order_lists.proofs.index.index_size.Goals as goal
use Rattle.order_lists.proofs.index.index_size.Lts as lts
use Rattle.order_lists.proofs.index.index_size.Reads as reads
use Rattle.order_lists.proofs.index.index_size.Tie as tie

abbrev At-After-sure-w : Type 0
At-After-sure-w = lts.After-sure tie.the-claims reads.Pre reads.Post

read : (c : At-After-sure-w) → Reads (field_dec bad_index 8) c.args.block.now 0 (found c.sure-w.result.value c.sure-w.result.next.at)
read c = subst (λ (n : ℕ). Reads (field_dec bad_index 8) c.args.block.now n (found c.sure-w.result.value c.sure-w.result.next.at)) c.start.ensures (c.sure-w.ensures.0 bad_index)

width : (c : At-After-sure-w) → c.sure-w.result.value ≡ c.requires.value.width
width c = width_is_lem c.args.lines c.args.block.now c.requires.reads (read c)

pub sure-w-requires : goal.sure-w-requires
sure-w-requires c =
    let p = c.requires in omega (arith, p.short, width_there c.args.block.now c.args.lines p.reads)

pub lists_numbers-totals-requires : goal.lists_numbers-totals-requires
lists_numbers-totals-requires c =
    let p = c.requires in
    let s = c.args.block.now in
    let n = c.args.lines in
    rw (width (c.before)) (record {
      narrow = width_narrow s n p.reads;
      short = p.short;
      rising = p.rising;
      few = p.few;
      value = p.value.lists;
      behind = (before s n p.reads).after;
      at = lists_stand s n p.reads;
      count = as_many s n p.reads;
      falls = p.falls;
    })

pub overflow_add-result : goal.overflow_add-result
overflow_add-result c =
    let p = c.requires in omega (arith, sizes_small c.args.block.now c.args.lines c.args.words.now c.args.removal.now (read c.before.before.before.before) c.lists_numbers-totals.ensures p.reads p.falls p.kept)

pub overflow_mul-result : goal.overflow_mul-result
overflow_mul-result c =
    let p = c.requires in omega (arith, product_small c.args.block.now c.args.lines c.args.words.now c.args.removal.now (read c.before.before.before.before) c.lists_numbers-totals.ensures p.reads p.falls p.kept c.least_width-width.ensures)

pub overflow_add-result-2 : goal.overflow_add-result-2
overflow_add-result-2 c =
    let p = c.requires in omega (arith, product_small c.args.block.now c.args.lines c.args.words.now c.args.removal.now (read c.before.before.before.before) c.lists_numbers-totals.ensures p.reads p.falls p.kept c.least_width-width.ensures)

pub overflow_add-result-3 : goal.overflow_add-result-3
overflow_add-result-3 c =
    let p = c.requires in omega (arith, product_small c.args.block.now c.args.lines c.args.words.now c.args.removal.now (read c.before.before.before.before) c.lists_numbers-totals.ensures p.reads p.falls p.kept c.least_width-width.ensures)

pub returns : goal.returns
returns c =
    sized c.args.block.now c.args.lines c.args.words.now c.args.removal.now (read c.before.before.before.before) c.lists_numbers-totals.ensures c.least_width-width.ensures
