-- Code by code. The invariant holds of whatever codes the bytes are: those passed are put.
use native.Mathlib.Omega.{arith}
use native.Mathlib.Nat.{mod-lt, mul-le-mul_right, suc-mul}
use mathlib.Core.Path.{◌≡◌, ap, ◌∙◌}
use Prim.Native.Nat.{suc, ◌*◌, ◌≤◌}
use lib.ListN.{length, length-map}
use lib.Pow.{pow_pos}
use Rattle.sheet_codes.specs.Code.{sign_extended}
use Rattle.write_blocks.proofs.Laws.Puts.{codes_next, codes_place, codes_all}
use Rattle.write_blocks.proofs.line.codes_put.Goals as goal

pub put_bits-p-requires : goal.put_bits-p-requires
put_bits-p-requires c =
    let pre = c.requires in
    let i = c.loop-code.code-index in
    let k = c.args.k in
    let (e, z) = codes_place k pre.value c.loop-code.invariant pre.fits pre.held (omega arith) in
    let n : length c.args.value.now ≡ length pre.value = ap length pre.held ∙ length-map pre.value (sign_extended k) in
    let m : suc i * k ≤ length pre.value * k = mul-le-mul_right k (omega arith) in
    record {
      below = rw c.pow2-top.ensures.0 (mod-lt _ (pow_pos k));
      narrow = omega (arith, pre.high);
      room = omega (arith, e, suc-mul i k, m, z, pre.room.room);
      near = omega (arith, e, suc-mul i k, m, pre.room.near);
    }

pub loop-code-preserved : goal.loop-code-preserved
loop-code-preserved c = codes_next c.args.k (omega arith) c.wide.ensures c.pow2-top.ensures.0 c.loop-code.invariant c.put_bits-p.ensures

pub returns : goal.returns
returns c = codes_all c.args.k c.loop-code.invariant (omega arith)
