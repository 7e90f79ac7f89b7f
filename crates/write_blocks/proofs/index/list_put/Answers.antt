-- Number by number. The invariant holds of whatever list the bytes are: the differences of those passed are put.
use native.Mathlib.Omega.{arith}
use native.Mathlib.Nat.{mul-le-mul_right, suc-mul}
use mathlib.Core.Path.{refl}
use Prim.Native.Nat.{suc, ◌*◌, ◌^◌, ◌≤◌, ◌<◌}
use lib.ListN.{length}
use Rattle.bits.specs.ListsLaws.{all_at}
use Rattle.differences.specs.Differences.{diffs}
use Rattle.differences.proofs.DifferencesLaws.{length_diffs}
use Rattle.find_parts.proofs.Laws.Lists.{list_bits_lem}
use Rattle.write_blocks.proofs.Laws.Index.{numbers, list_place, number_next, list_next, list_all}
use Rattle.write_blocks.proofs.index.list_put.Goals as goal

pub put_bits-p-requires : goal.put_bits-p-requires
put_bits-p-requires c =
    let pre = c.requires in
    let n = numbers c.args.w c.args.l pre.value pre.held in
    let b = list_bits_lem c.args.w c.args.l pre.value in
    record { below = rw n pre.fits.count; narrow = pre.narrow; room = omega (arith, b, pre.room.room); near = omega (arith, b, pre.room.near) }

pub overflow_sub-before : goal.overflow_sub-before
overflow_sub-before c =
    let pre = c.requires in
    omega (arith, (number_next c.args.w c.args.l pre.value pre.held (c.loop-i.invariant pre.value pre.fits pre.held) c.loop-i-test.true c.two_at-number.ensures).1)

pub put_bits-p-requires-in-loop-i : goal.put_bits-p-requires-in-loop-i
put_bits-p-requires-in-loop-i c =
    let pre = c.requires in
    let w = c.args.w in
    let l = c.args.l in
    let i = c.loop-i.i in
    let g = c.loop-i.invariant pre.value pre.fits pre.held in
    let (k, _, d) = number_next w l pre.value pre.held g c.loop-i-test.true c.two_at-number.ensures in
    let (place, same) = list_place w l pre.value pre.held g (omega (arith, k)) in
    let b = list_bits_lem w l pre.value in
    let first = c.put_bits-p.ensures in
    let m : suc i * w ≤ length pre.value * w = mul-le-mul_right w (omega (arith, k)) in
    record {
      below = rw d (all_at (λ n. n < 2 ^ w) 0 (diffs l pre.value) i (omega (arith, k, length_diffs l pre.value)) pre.fits.diffs);
      narrow = pre.narrow;
      room = omega (arith, place, same, b, first.place, first.same, m, suc-mul i w, pre.room.room);
      near = omega (arith, place, b, first.place, m, suc-mul i w, pre.room.near);
    }

pub loop-i-preserved : goal.loop-i-preserved
loop-i-preserved c = list_next c.args.w c.args.l c.loop-i-test.true c.two_at-number.ensures c.loop-i.invariant c.put_bits-p-in-loop-i.ensures

pub returns : goal.returns
returns c = list_all c.args.w c.args.l refl c.put_bits-p.ensures c.loop-i-test.false c.loop-i.invariant
