-- The view, and then its segments. Code stops at the segment of that place or at the block's end, and the laws say what either means.
use native.Mathlib.Omega.{arith}
use Rattle.std.proofs.lemmas.Result.{err_from_is_err_and}
use Rattle.bits.proofs.Laws.Place.{all_bytes}
use Rattle.find_parts.proofs.Laws.Blocks.{block_there}
use Rattle.find_view.proofs.Laws.{short}
use Rattle.find_segment.proofs.Laws.{refused_view, far, lines_within, not_there, four_there, all_there, segment_there}
use Rattle.find_segment.proofs.find_segment.Goals as goal

pub returns-in_err-found : goal.returns-in_err-found
returns-in_err-found c =
    let p = err_from_is_err_and c.from_residual.result c.from_residual.ensures.1 in
    rw (p.1, p.2) (refused_view c.args.place c.in_err-found.ensures)

pub slice_bounds-block-count : goal.slice_bounds-block-count
slice_bounds-block-count c =
    let e = c.in_ok-found.ensures.blocks.segments in omega (arith, e.from, e.within)

pub slice_bounds-block-start : goal.slice_bounds-block-start
slice_bounds-block-start c =
    let e = c.in_ok-found.ensures.blocks.segments in omega (arith, e.from, e.within)

pub slice_bounds-block-end : goal.slice_bounds-block-end
slice_bounds-block-end c =
    let e = c.in_ok-found.ensures.blocks.segments in omega (arith, e.from, e.within)

pub pass_segments-passed-requires : goal.pass_segments-passed-requires
pass_segments-passed-requires c =
    let h = c.in_ok-found.ensures in block_there (short h) h.blocks.segments

pub returns-then-block-passed : goal.returns-then-block-passed
returns-then-block-passed c =
    let bytes = all_bytes c.args.bytes.now (λ i. (c.type_inv.bytes i).fits) in
    rw c.into.ensures (not_there c.in_ok-found.ensures bytes c.pass_segments-passed.ensures c.if-block-passed.true)

pub overflow_add-start : goal.overflow_add-start
overflow_add-start c =
    let h = c.in_ok-found.ensures in
    let bytes = all_bytes c.args.bytes.now (λ i. (c.type_inv.bytes i).fits) in
    omega (arith, short h, four_there h bytes c.pass_segments-passed.ensures c.if-block-passed.false)

pub overflow_sub-lines : goal.overflow_sub-lines
overflow_sub-lines c =
    let h = c.in_ok-found.ensures in
    let bytes = all_bytes c.args.bytes.now (λ i. (c.type_inv.bytes i).fits) in
    omega (arith, far h bytes, lines_within h bytes)

pub two_at-requires : goal.two_at-requires
two_at-requires c =
    let h = c.in_ok-found.ensures in
    let bytes = all_bytes c.args.bytes.now (λ i. (c.type_inv.bytes i).fits) in
    omega (arith, far h bytes, lines_within h bytes)

pub overflow_sub-lines-2 : goal.overflow_sub-lines-2
overflow_sub-lines-2 c =
    let h = c.in_ok-found.ensures in
    let bytes = all_bytes c.args.bytes.now (λ i. (c.type_inv.bytes i).fits) in
    omega (arith, far h bytes, lines_within h bytes)

pub two_at-requires-2 : goal.two_at-requires-2
two_at-requires-2 c =
    let h = c.in_ok-found.ensures in
    let bytes = all_bytes c.args.bytes.now (λ i. (c.type_inv.bytes i).fits) in
    omega (arith, far h bytes, lines_within h bytes)

pub two_at-requires-3 : goal.two_at-requires-3
two_at-requires-3 c =
    let h = c.in_ok-found.ensures in
    let bytes = all_bytes c.args.bytes.now (λ i. (c.type_inv.bytes i).fits) in
    omega (arith, short h, four_there h bytes c.pass_segments-passed.ensures c.if-block-passed.false)

pub overflow_add-result : goal.overflow_add-result
overflow_add-result c =
    let h = c.in_ok-found.ensures in
    let bytes = all_bytes c.args.bytes.now (λ i. (c.type_inv.bytes i).fits) in
    omega (arith, short h, four_there h bytes c.pass_segments-passed.ensures c.if-block-passed.false)

pub overflow_add-start-2 : goal.overflow_add-start-2
overflow_add-start-2 c =
    let h = c.in_ok-found.ensures in
    let bytes = all_bytes c.args.bytes.now (λ i. (c.type_inv.bytes i).fits) in
    omega (arith, short h, four_there h bytes c.pass_segments-passed.ensures c.if-block-passed.false)

pub two_at-requires-4 : goal.two_at-requires-4
two_at-requires-4 c =
    let h = c.in_ok-found.ensures in
    let bytes = all_bytes c.args.bytes.now (λ i. (c.type_inv.bytes i).fits) in
    omega (arith, short h, four_there h bytes c.pass_segments-passed.ensures c.if-block-passed.false)

pub overflow_add-result-2 : goal.overflow_add-result-2
overflow_add-result-2 c =
    let h = c.in_ok-found.ensures in
    let bytes = all_bytes c.args.bytes.now (λ i. (c.type_inv.bytes i).fits) in
    omega (arith, short h, all_there h bytes c.pass_segments-passed.ensures c.if-block-passed.false c.two_at-4.ensures)

pub returns : goal.returns
returns c =
    let bytes = all_bytes c.args.bytes.now (λ i. (c.type_inv.bytes i).fits) in
    segment_there c.in_ok-found.ensures bytes c.pass_segments-passed.ensures c.if-block-passed.false c.two_at-4.ensures c.two_at.ensures c.two_at-2.ensures c.two_at-3.ensures
