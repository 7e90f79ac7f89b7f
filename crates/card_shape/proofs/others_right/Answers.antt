-- The loop's invariant: the answer from here on is the whole answer.
use native.Mathlib.Omega.{arith}
use Prim.Native.Nat.{ℕ, ◌+◌, ◌*◌, ◌<◌}
use mathlib.Core.List.{List}
use lib.ListN.{length, get_or}
use Rattle.std.proofs.Common.{Fits, w8}
use Rattle.bits.specs.Codec.{field_dec}
use Rattle.bits.specs.Reads.{Reads, found}
use Rattle.bits.proofs.Laws.Bytewise.{byte_reads}
use Rattle.outcome.specs.Refusals.{bad_object}
use Rattle.format.specs.declared.Part.{Part}
use Rattle.card_shape.specs.Shape.{WholeValue}
use Rattle.card_shape.proofs.Laws.Others.{length_moves, passed_start, passed_bad, passed_next, passed_done}
use Rattle.card_shape.proofs.others_right.Goals as goal

module _ (s : List ℕ) (a : ℕ) (l : a < length s) where
  tag : ((i : ℕ) → Fits w8 (get_or s i 0)) → Reads (field_dec bad_object 8) s (8 * a) (found (get_or s a 0) (8 * (a + 1)))
  tag fits = byte_reads s (λ i. (fits i).fits) bad_object a l

  moves : {x : Part} → WholeValue s (a + 1) x → a + 1 < x.to
  moves {x} h = omega (arith, h.ordered, length_moves (a + 1) x.from (omega arith) h.counted)

pub loop-a-init : goal.loop-a-init
loop-a-init c =
    (omega arith, (0, (omega arith, passed_start c.args.bytes.now)))

pub returns-in_default : goal.returns-in_default
returns-in_default c =
    let (within, (n, (few, passed))) = c.loop-a.invariant in
    passed_bad c.args.bytes.now n c.loop-a.a passed few c.loop-a-test.true (tag c.args.bytes.now c.loop-a.a c.loop-a-test.true c.type_inv.bytes) c.in_default.ensures

pub loop-a-smaller : goal.loop-a-smaller
loop-a-smaller c =
    let w = c.in-Some.ensures in
    omega (arith, moves c.args.bytes.now c.loop-a.a c.loop-a-test.true w, w.within)

pub loop-a-preserved : goal.loop-a-preserved
loop-a-preserved c =
    let (within, (n, (few, passed))) = c.loop-a.invariant in
    let w = c.in-Some.ensures in
    let m : c.loop-a.a + 1 < c.in-Some.value.to = moves c.args.bytes.now c.loop-a.a c.loop-a-test.true w in
    (w.within, (n + 1, (omega arith, passed_next c.args.bytes.now n c.loop-a.a passed few c.loop-a-test.true (tag c.args.bytes.now c.loop-a.a c.loop-a-test.true c.type_inv.bytes) w)))

pub returns : goal.returns
returns c =
    let (within, (n, (few, passed))) = c.loop-a.invariant in
    passed_done c.args.bytes.now n c.loop-a.a passed c.loop-a-test.false
