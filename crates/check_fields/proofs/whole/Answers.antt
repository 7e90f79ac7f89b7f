-- Field by field. The invariant is which fields are passed, and that the answer from here is the whole answer; the measure is the
-- bytes that are left.
use Prim.Native.Nat.{◌-◌}
use native.Mathlib.Omega.{arith}
use Rattle.bits.specs.Lists.{All}
use Rattle.bits.specs.Bytes.{Byte}
use Rattle.bits.proofs.Laws.Place.{all_bytes}
use Rattle.check_fields.proofs.Laws.{cut_start, cut_value, going_first, going_on, going_stops, going_all}
use Rattle.check_fields.proofs.whole.Goals as goal
use Rattle.check_fields.proofs.whole.Lts as lts
use Rattle.check_fields.proofs.whole.Reads as reads
use Rattle.check_fields.proofs.whole.Tie as tie

abbrev At-At-loop-p : Type 0
At-At-loop-p = lts.At-loop tie.the-claims reads.Pre reads.Post goal.the-invariant-loop-p goal.the-decreases-loop-p

bytes : (c : At-At-loop-p) → All Byte c.args.sheet.now
bytes c = all_bytes c.args.sheet.now (λ i. (c.shared_slice_known-1.given i).fits)

pub loop-p-init : goal.loop-p-init
loop-p-init c = going_first c.args.sheet.now

pub returns-then-sheet-p-lt3 : goal.returns-then-sheet-p-lt3
returns-then-sheet-p-lt3 c =
    let l = c.before.before.before in
    going_stops (bytes l) l.loop-p.invariant c.loop-p-test.true (cut_start l.args.sheet.now (bytes l) l.loop-p.p l.loop-p.invariant.within c.if-sheet-p-lt3.true)

pub returns-then-sheet-p : goal.returns-then-sheet-p
returns-then-sheet-p c =
    let l = c.before.before.before.before.before in
    going_stops (bytes l) l.loop-p.invariant c.loop-p-test.true
    (cut_value l.args.sheet.now (bytes l) l.loop-p.p l.loop-p.invariant.within c.two_at-size.result c.two_at-size.ensures c.if-sheet-p.true)

pub loop-p-smaller : goal.loop-p-smaller
loop-p-smaller c = omega (arith, c.loop-p-test.true, c.if-sheet-p-lt3.false, c.if-sheet-p.false)

pub loop-p-preserved : goal.loop-p-preserved
loop-p-preserved c =
    let l = c.before.before.before.before.before in
    going_on (bytes l) l.loop-p.invariant c.loop-p-test.true c.two_at-size.result c.two_at-size.ensures (omega (arith, c.if-sheet-p-lt3.false, c.if-sheet-p.false))

pub returns : goal.returns
returns c = going_all c.loop-p.invariant c.loop-p-test.false
