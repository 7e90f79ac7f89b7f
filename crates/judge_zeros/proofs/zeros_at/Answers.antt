-- The loop's invariant: reading zero bits from the cursor on gives what it gives from the start, as the bits between were zero. The
-- measure is the bits left.
use native.Mathlib.Omega.{arith}
use Prim.Native.Nat.{◌-◌, ◌*◌, ◌%◌}
use mathlib.Core.Path.{ap, sym, ◌∙◌}
use lib.ListN.{length, drop}
use Rattle.bits.specs.Bytes.{bits_of}
use Rattle.bits.specs.Block.{zeros_dec}
use Rattle.bits.specs.Codec.{refused, got}
use Rattle.bits.proofs.Laws.Reads.{length_rest, below}
use Rattle.bits.proofs.Laws.Loops.{field_zero, field_one}
use Rattle.bits.proofs.Laws.Parts.{drop_end}
use Rattle.judge_zeros.proofs.zeros_at.Goals as goal

pub first_one-requires : goal.first_one-requires
first_one-requires c =
    (omega (arith, c.if-bits-ne0.true), below 0 _ (c.sure-bits.ensures.0 0), omega arith)

pub returns-then-bits-ne0 : goal.returns-then-bits-ne0
returns-then-bits-ne0 c =
    let m = c.loop-q in
    let s = c.args.block.now in
    let f = c.first_one in
    let n = 8 - m.q.at % 8 in
    λ e. record {
      is = sym (m.invariant.1 e) ∙ field_one e n (drop m.q.at (bits_of s)) (c.sure-bits.ensures.0 e).is f.result f.ensures.0 f.ensures.1 f.ensures.2
          ∙ ap (refused e) (omega (arith, length_rest s m.q.at));
      within = omega (arith, f.ensures.0);
    }

pub loop-q-preserved : goal.loop-q-preserved
loop-q-preserved c =
    let m = c.loop-q in
    let s = c.args.block.now in
    (omega (arith, c.sure-bits.ensures.1), λ e. sym (field_zero e _ (drop m.q.at (bits_of s)) (c.sure-bits.ensures.0 e).is c.if-bits-ne0.false) ∙ m.invariant.1 e)

pub returns : goal.returns
returns c =
    let m = c.loop-q in
    let s = c.args.block.now in
    λ e. record { is = sym (m.invariant.1 e) ∙ ap (zeros_dec e) (drop_end s m.q.at (omega (arith, c.loop-q-test.false))) ∙ ap (got tt) (sym (drop_end s (8 * length s) (omega arith))); within = omega arith }
