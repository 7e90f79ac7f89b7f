-- Element by element. The invariant: the distances that are laid and those still to come are the line's.
use native.Mathlib.Omega.{arith}
use mathlib.Core.Path.{◌∙◌}
use Prim.Native.Nat.{◌+◌, ◌-◌, ◌≤◌, ◌<◌}
use lib.ListN.{length, length-take, length-drop}
use Rattle.bits.proofs.Laws.Reads.{below}
use Rattle.outcome.specs.Refusals.{bad_pores}
use Rattle.pores_elements.proofs.ElementLaws.{pow_four}
use Rattle.pores_values.proofs.Laws.Distances.{mark_there, laying_start, end_ends, zero_ends, laying_ones, room_left, laying_distance}
use Rattle.pores_values.proofs.distances_put.Goals as goal
use Rattle.pores_values.proofs.distances_put.Lts as lts
use Rattle.pores_values.proofs.distances_put.Reads as reads
use Rattle.pores_values.proofs.distances_put.Tie as tie

abbrev At-Else-element-ones : Type 0
At-Else-element-ones = lts.Else2 tie.the-claims reads.Pre reads.Post goal.the-invariant-loop-p goal.the-decreases-loop-p

room : (c : At-Else-element-ones) → c.loop-p.laid + 4 ≤ length c.loop-p.out
room c = room_left c.requires (c.loop-p.invariant c.requires) (c.sure-element.ensures.0 bad_pores) c.if-element-eq0.false c.sure-element.ensures.1 (λ z. c.if-element-ones.false (z ∙ omega (arith, c.pow2-ones.ensures)))

small : (c : At-Else-element-ones) → c.loop-p.passed + c.sure-element.result.value < 4294967296
small c = omega (arith, below bad_pores c.args.e (c.sure-element.ensures.0 bad_pores), c.pow2-ones.ensures, (c.loop-p.invariant c.requires).small, (c.loop-p.invariant c.requires).within, c.requires.elements.short)

pub overflow_mul-end : goal.overflow_mul-end
overflow_mul-end c =
    omega (arith, c.requires.elements.short)

pub pow2-ones-requires : goal.pow2-ones-requires
pow2-ones-requires c =
    c.requires.elements.high

pub overflow_sub-ones : goal.overflow_sub-ones
overflow_sub-ones c =
    omega (arith, c.pow2-ones.ensures, pow_four c.args.e c.requires.elements.low)

pub overflow_add-p : goal.overflow_add-p
overflow_add-p c =
    omega (arith, mark_there c.requires, c.requires.elements.short)

pub loop-p-init : goal.loop-p-init
loop-p-init c =
    λ R. laying_start R

pub overflow_sub-end : goal.overflow_sub-end
overflow_sub-end c =
    omega (arith, (c.loop-p.invariant c.requires).within)

pub sure-element-requires : goal.sure-element-requires
sure-element-requires c =
    (c.requires.elements.short, omega (arith, c.requires.elements.high), omega (arith, (c.loop-p.invariant c.requires).within, c.loop-p-test.true))

pub shape_of-out-then-element-eq0 : goal.shape_of-out-then-element-eq0
shape_of-out-then-element-eq0 c =
    (c.loop-p.invariant c.requires).same

pub returns-then-element-eq0 : goal.returns-then-element-eq0
returns-then-element-eq0 c =
    zero_ends c.requires (c.loop-p.invariant c.requires) (c.sure-element.ensures.0 bad_pores) c.if-element-eq0.true

pub overflow_add-p-in-loop-p : goal.overflow_add-p-in-loop-p
overflow_add-p-in-loop-p c =
    omega (arith, (c.loop-p.invariant c.requires).within, c.requires.elements.short, c.requires.elements.high)

pub overflow_sub-passed : goal.overflow_sub-passed
overflow_sub-passed c =
    omega (arith, c.pow2-ones.ensures, pow_four c.args.e c.requires.elements.low)

pub overflow_add-passed : goal.overflow_add-passed
overflow_add-passed c =
    omega (arith, c.pow2-ones.ensures, (c.loop-p.invariant c.requires).small, (c.loop-p.invariant c.requires).within, c.requires.elements.short)

pub loop-p-smaller-then-element-ones : goal.loop-p-smaller-then-element-ones
loop-p-smaller-then-element-ones c =
    omega (arith, c.loop-p-test.true, c.requires.elements.low)

pub loop-p-preserved-then-element-ones : goal.loop-p-preserved-then-element-ones
loop-p-preserved-then-element-ones c =
    λ R. let n = c.sure-element.ensures.1 in
    rw n at (laying_ones R (c.loop-p.invariant R) (c.sure-element.ensures.0 bad_pores) c.if-element-eq0.false n (c.pow2-ones.result - 1 - 1) (c.if-element-ones.true ∙ omega (arith, c.pow2-ones.ensures)) (omega (arith, c.pow2-ones.ensures)))

pub slice_bounds-put_four-count : goal.slice_bounds-put_four-count
slice_bounds-put_four-count c =
    omega (arith, room (c.before))

pub slice_bounds-put_four-start : goal.slice_bounds-put_four-start
slice_bounds-put_four-start c =
    omega (arith, room (c.before))

pub slice_bounds-put_four-end : goal.slice_bounds-put_four-end
slice_bounds-put_four-end c =
    omega (arith, room (c.before))

pub overflow_add-passed-in-loop-p : goal.overflow_add-passed-in-loop-p
overflow_add-passed-in-loop-p c =
    omega (arith, small c.before.before.before)

pub put_four-laid-requires : goal.put_four-laid-requires
put_four-laid-requires c =
    (simp (length-take, length-drop) (omega (arith, room c.before.before.before)), omega (arith, small c.before.before.before))

pub overflow_add-laid : goal.overflow_add-laid
overflow_add-laid c =
    omega (arith, c.put_four-laid.ensures.count, (c.loop-p.invariant c.requires).short, (c.loop-p.invariant c.requires).within, c.requires.elements.short)

pub loop-p-smaller : goal.loop-p-smaller
loop-p-smaller c =
    omega (arith, c.loop-p-test.true, c.requires.elements.low)

pub loop-p-preserved : goal.loop-p-preserved
loop-p-preserved c =
    λ R. let n = c.sure-element.ensures.1 in
    rw n at (laying_distance R (c.loop-p.invariant R) (c.sure-element.ensures.0 bad_pores) c.if-element-eq0.false n (λ z. c.if-element-ones.false (z ∙ omega (arith, c.pow2-ones.ensures))) c.put_four-laid.ensures)

pub shape_of-out : goal.shape_of-out
shape_of-out c =
    (c.loop-p.invariant c.requires).same

pub returns : goal.returns
returns c =
    end_ends c.requires (c.loop-p.invariant c.requires) (omega (arith, c.loop-p-test.false))
