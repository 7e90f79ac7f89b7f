-- `judge_heads::view::head_at` meets its contract: there is room for the header, its fields are read by `head_fields`, and the skeleton's
-- length stands behind them.
use native.Mathlib.Omega.{arith}
use Prim.Native.Nat.{◌+◌, ◌*◌, ◌≤◌}
use mathlib.Core.Path.{◌≡◌}
use lib.ListN.{length}
use Rattle.bits.proofs.Laws.Reads.{up_to}
use Rattle.judge_heads.specs.Answers.{head_dec}
use Rattle.judge_heads.proofs.Laws.View.{fields_behind, head_short, head_bad, head_good}
use Rattle.judge_heads.proofs.view.head_at.Goals as goal

pub returns-then-bytes-a-lt10 : goal.returns-then-bytes-a-lt10
unfolding head_dec
returns-then-bytes-a-lt10 c =
    rw c.at.ensures (head_short _ _ _ (omega arith) (omega (arith, c.if-bytes-a-lt10.true)))

pub head_fields-requires : goal.head_fields-requires
head_fields-requires c =
    omega (arith, c.if-bytes-a-lt10.false, c.requires)

pub sure-len-requires : goal.sure-len-requires
sure-len-requires c =
    let room : 8 * c.args.a + 80 ≤ 8 * length c.args.bytes.now = omega (arith, c.if-bytes-a-lt10.false, c.requires) in
    let z = c.in-Ok.ensures 7 in
    omega (arith, room, fields_behind 7 _ (omega arith) z, c.requires)

pub returns-in-Err : goal.returns-in-Err
unfolding head_dec
returns-in-Err c =
    rw c.at-in-Err.ensures (head_bad _ _ _ (omega (arith, c.if-bytes-a-lt10.false, c.requires)) (c.in-Err.ensures 7))

pub returns : goal.returns
unfolding head_dec
returns c =
    let room : 8 * c.args.a + 80 ≤ 8 * length c.args.bytes.now = omega (arith, c.if-bytes-a-lt10.false, c.requires) in
    let z = c.in-Ok.ensures 7 in
    let e : c.sure-len.result.next.at ≡ 8 * c.args.a + 80 = omega (arith, c.sure-len.ensures.1, fields_behind 7 _ (omega arith) z) in
    up_to e (head_good _ _ _ room z (c.sure-len.ensures.0 6))
