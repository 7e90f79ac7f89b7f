-- The resolution, e, and the lines' numbers, one behind the other.
use native.Mathlib.Omega.{arith}
use mathlib.Core.Path.{◌≡◌}
use Prim.Native.Nat.{◌+◌}
use lib.ListN.{length, length-take, length-drop}
use Rattle.put_bytes.proofs.Laws.{back}
use Rattle.bits.proofs.Laws.Reads.{below}
use Rattle.outcome.specs.Refusals.{bad_pores}
use Rattle.pores_values.proofs.Laws.Lines.{three_there, element_small, enough_numbers, first_same, second_same, lines_room, all_fit, numbers_laid}
use Rattle.pores_values.proofs.put_numbers.Goals as goal
use Rattle.pores_values.proofs.put_numbers.Lts as lts
use Rattle.pores_values.proofs.put_numbers.Reads as reads
use Rattle.pores_values.proofs.put_numbers.Tie as tie

abbrev At-After-put_four-first : Type 0
At-After-put_four-first = lts.After-put_four tie.the-claims reads.Pre reads.Post

abbrev At-After-put_four : Type 0
At-After-put_four = lts.After-put_four2 tie.the-claims reads.Pre reads.Post

first : (c : At-After-put_four-first) → (c.put_four-first.result ≡ 4) × (length c.put_four-first.new.out ≡ length c.args.out.now)
first c = first_same c.requires (c.sure-resolution.ensures.0 bad_pores) c.put_four-first.ensures

second : (c : At-After-put_four) → (c.put_four-first.result + c.put_four.result ≡ 8) × (length (back c.put_four-first.new.out c.put_four-first.result c.put_four.new.out) ≡ length c.args.out.now)
second c = second_same c.requires (c.sure-resolution.ensures.0 bad_pores) c.put_four-first.ensures c.put_four.ensures

pub sure-resolution-requires : goal.sure-resolution-requires
sure-resolution-requires c =
    omega (arith, three_there c.requires, c.requires.short)

pub put_four-first-requires : goal.put_four-first-requires
put_four-first-requires c =
    (omega (arith, enough_numbers c.requires), omega (arith, below bad_pores 16 (c.sure-resolution.ensures.0 bad_pores)))

pub slice_bounds-put_four-count : goal.slice_bounds-put_four-count
slice_bounds-put_four-count c =
    omega (arith, first c.before.before.before, enough_numbers c.requires)

pub slice_bounds-put_four-start : goal.slice_bounds-put_four-start
slice_bounds-put_four-start c =
    omega (arith, first c.before.before.before, enough_numbers c.requires)

pub slice_bounds-put_four-end : goal.slice_bounds-put_four-end
slice_bounds-put_four-end c =
    omega (arith, first c.before.before.before, enough_numbers c.requires)

pub put_four-requires : goal.put_four-requires
put_four-requires c =
    (simp (length-take, length-drop) (omega (arith, first c.before.before.before.before, enough_numbers c.requires)), omega (arith, element_small c.requires))

pub overflow_add-start : goal.overflow_add-start
overflow_add-start c =
    omega (arith, second c.before.before.before, enough_numbers c.requires)

pub slice_bounds-lines_put-count : goal.slice_bounds-lines_put-count
slice_bounds-lines_put-count c =
    omega (arith, second c.before.before.before, enough_numbers c.requires)

pub slice_bounds-lines_put-start : goal.slice_bounds-lines_put-start
slice_bounds-lines_put-start c =
    omega (arith, second c.before.before.before, enough_numbers c.requires)

pub slice_bounds-lines_put-end : goal.slice_bounds-lines_put-end
slice_bounds-lines_put-end c =
    omega (arith, second c.before.before.before, enough_numbers c.requires)

pub lines_put-requires : goal.lines_put-requires
lines_put-requires c =
    lines_room c.requires (c.sure-resolution.ensures.0 bad_pores) c.put_four-first.ensures c.put_four.ensures

pub overflow_add-result : goal.overflow_add-result
overflow_add-result c =
    omega (arith, all_fit c.requires (c.sure-resolution.ensures.0 bad_pores) c.put_four-first.ensures c.put_four.ensures c.lines_put.ensures, c.slice_known-1.given 0)

pub returns : goal.returns
returns c =
    numbers_laid c.requires (c.sure-resolution.ensures.0 bad_pores) c.put_four-first.ensures c.put_four.ensures c.lines_put.ensures
