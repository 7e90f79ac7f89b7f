-- One way for each form of a length.
use mathlib.Core.Path.{ap}
use native.Mathlib.Omega.{arith}
use Prim.Native.Nat.{◌<◌}
use lib.ListN.{length}
use Rattle.card.proofs.Laws.Written.{short_out, middle_out, long_out}
use Rattle.card_writing.proofs.Laws.{short_laid, middle_laid, long_laid}
use Rattle.card_writing.proofs.put_length.Goals as goal

pub put_three-requires : goal.put_three-requires
put_three-requires c =
    (omega (arith, ap length (long_out c.args.n c.if-n-gt255.true), c.requires.room), omega arith, c.requires.small)

pub returns-then-n-gt255 : goal.returns-then-n-gt255
returns-then-n-gt255 c =
    long_laid c.args.n c.if-n-gt255.true c.put_three.ensures

pub put_two-requires : goal.put_two-requires
put_two-requires c =
    (omega (arith, ap length (middle_out c.args.n c.if-n-gt127.true (omega (arith, c.if-n-gt255.false))), c.requires.room), omega arith)

pub returns-then-n-gt127 : goal.returns-then-n-gt127
returns-then-n-gt127 c =
    middle_laid c.args.n c.if-n-gt127.true (omega (arith, c.if-n-gt255.false)) c.put_two.ensures

pub bounds-out-0 : goal.bounds-out-0
bounds-out-0 c =
    omega (arith, ap length (short_out c.args.n (omega (arith, c.if-n-gt127.false))), c.requires.room)

pub returns : goal.returns
returns c =
    let l : c.args.n < 128 = omega (arith, c.if-n-gt127.false) in
    short_laid c.args.n l (omega (arith, ap length (short_out c.args.n l), c.requires.room))
