-- The number is added to the one, two or three bytes that it reaches into.
use native.Mathlib.Omega.{arith}
use mathlib.Core.Path.{◌≡◌}
use Prim.Native.Nat.{ℕ, ◌+◌, ◌/◌, ◌%◌, ◌≤◌}
use lib.ListN.{take}
use lib.Seq.{sets}
use Rattle.put_bits.specs.Put.{PutInto}
use Rattle.put_bits.proofs.ThreeBytes.{three}
use Rattle.put_bits.proofs.Sum.{added}
use Rattle.put_bits.proofs.Into.{three_of, put_into, into_nothing, two_added, three_added}
use Rattle.put_bits.proofs.put_into.Goals as goal
use Rattle.put_bits.proofs.put_into.Goals.{After-window-word}

into : (c : After-window-word) (m : ℕ) → (c.args.at % 8 + c.args.width + 7) / 8 ≡ m → m ≤ 3
    → PutInto c.args.out.now c.args.at c.args.value c.args.width
    (sets c.args.out.now (c.args.at / 8) (take m (added (three_of c.args.out.now (c.args.at / 8)) (three c.window-word.result))))
into c m begins few =
    let a = c.args in
    put_into a.out.now a.at a.value a.width c.window-word.result m c.requires.below c.requires.room c.window-word.ensures begins few

pub returns-then-width-eq0 : goal.returns-then-width-eq0
returns-then-width-eq0 c =
    into_nothing c.args.out.now c.args.at c.args.value c.args.width c.if-width-eq0.true

pub returns-then-end-le8 : goal.returns-then-end-le8
returns-then-end-le8 c =
    rw c.add_at.ensures (into (goal.at.returns-then-end-le8 c).After-window-word 1 (omega arith) (omega arith))

pub returns-then-end-le16 : goal.returns-then-end-le16
returns-then-end-le16 c =
    rw (two_added c.args.out.now (c.args.at / 8) c.window-word.result c.add_at.ensures c.add_at-2.ensures) (into (goal.at.returns-then-end-le16 c).After-window-word 2 (omega arith) (omega arith))

pub returns : goal.returns
returns c =
    rw (three_added c.args.out.now (c.args.at / 8) c.window-word.result c.add_at.ensures c.add_at-2.ensures c.add_at-3.ensures) (into (goal.at.returns c).After-window-word 3 (omega arith) (omega arith))
