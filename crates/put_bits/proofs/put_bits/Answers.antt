-- The first one, two or three bytes of the window are stored: as many as the number reaches into.
use mathlib.Core.Path.{◌≡◌}
use Prim.Native.Nat.{ℕ, suc, ◌+◌, ◌/◌, ◌%◌, ◌≤◌}
use native.Mathlib.Numerals.{add-one}
use native.Mathlib.Omega.{arith}
use lib.ListN.{take, length-set}
use lib.Seq.{sets}
use Rattle.put_bits.specs.Put.{PutMore}
use Rattle.put_bits.proofs.Laws.{put_more, put_nothing}
use Rattle.put_bits.proofs.ThreeBytes.{three}
use Rattle.put_bits.proofs.put_bits.Goals as goal
use Rattle.put_bits.proofs.put_bits.Goals.{After-window-word}

more : (c : After-window-word) (m : ℕ) → (c.args.at % 8 + c.args.width + 7) / 8 ≡ m → 1 ≤ m → m ≤ 3
    → PutMore c.args.out.now c.args.at c.args.value c.args.width
    (sets c.args.out.now (c.args.at / 8) (take m (three c.window-word.result))) (c.args.at + c.args.width)
more c m begins some few =
    let a = c.args in
    let pre = c.requires in
    put_more a.out.now a.at a.value a.width c.wide.result c.window-word.result m pre.below pre.room
    c.wide.ensures (omega arith) c.window-word.ensures begins some few

pub returns-then-width-eq0 : goal.returns-then-width-eq0
returns-then-width-eq0 c =
    put_nothing c.args.out.now c.args.at c.args.value c.args.width c.if-width-eq0.true

pub window-word-requires : goal.window-word-requires
window-word-requires c =
    (omega arith, omega arith, omega arith, c.requires.below, c.requires.narrow)

pub returns-then-width-free : goal.returns-then-width-free
returns-then-width-free c =
    more (goal.at.returns-then-width-free c).After-window-word 1 (omega arith) (omega arith) (omega arith)

pub bounds-out-i-3 : goal.bounds-out-i-3
bounds-out-i-3 c =
    simp length-set (omega (arith, c.requires.room))

pub returns-then-width-free-2 : goal.returns-then-width-free-2
returns-then-width-free-2 c =
    rw (add-one (c.args.at / 8)) (more (goal.at.returns-then-width-free-2 c).After-window-word 2 (omega arith) (omega arith) (omega arith))

pub bounds-out-i-4 : goal.bounds-out-i-4
bounds-out-i-4 c =
    simp length-set (omega (arith, c.requires.room))

pub returns : goal.returns
returns c =
    let i = c.args.at / 8 in
    let e : i + 2 ≡ suc (suc i) = omega arith in
    rw (add-one i, e) (more (goal.at.returns c).After-window-word 3 (omega arith) (omega arith) (omega arith))
