-- The kept bits of the byte above the number's: neither shift loses a bit.
use native.Mathlib.Omega.{arith}
use Rattle.put_bits.proofs.ThreeBytes.{kept, kept_high, shifted}
use Rattle.put_bits.proofs.window.Goals as goal

pub overflow_mul-result : goal.overflow_mul-result
overflow_mul-result c =
    let (e, l) = kept c.args.byte c.args.free c.requires.0 c.requires.2 in
    omega arith

pub overflow_add-result-2 : goal.overflow_add-result-2
overflow_add-result-2 c =
    let (e, l) = kept c.args.byte c.args.free c.requires.0 c.requires.2 in
    let (f, m) = shifted c.args.free c.args.value c.args.width c.requires.2 c.requires.3 c.requires.4 in
    omega arith

pub returns : goal.returns
returns c =
    let (e, l) = kept c.args.byte c.args.free c.requires.0 c.requires.2 in
    let (f, m) = shifted c.args.free c.args.value c.args.width c.requires.2 c.requires.3 c.requires.4 in
    omega (arith, kept_high c.args.byte c.args.free)
