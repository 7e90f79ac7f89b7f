-- The difference is read, and taken from the line before.
use native.Mathlib.Omega.{arith}
use mathlib.Core.Path.{◌≡◌, refl}
use Prim.Native.Nat.{ℕ, ◌-◌, ◌≤◌}
use Rattle.outcome.specs.Refusals.{bad_index}
use Rattle.order_walk.proofs.Laws.Walk.{Next, next_in, line_to_lem}
use Rattle.order_walk.proofs.walk.next_line.Goals as goal
use Rattle.order_walk.proofs.walk.next_line.Lts as lts
use Rattle.order_walk.proofs.walk.next_line.Reads as reads
use Rattle.order_walk.proofs.walk.next_line.Tie as tie

abbrev At-Start : Type 0
At-Start = lts.Start tie.the-claims reads.Pre reads.Post

abbrev At-After-sure-d : Type 0
At-After-sure-d = lts.After-sure tie.the-claims reads.Pre reads.Post

here : (c : At-Start) → Next c.args.block.now c.args.k c.requires.value c.requires.behind
here c = next_in c.args.block.now c.args.k c.requires.value c.requires.at (omega (arith, c.requires.more))

is_line : (c : At-After-sure-d) (x : ℕ) → x ≤ c.args.k.base → c.sure-d.result.value ≡ c.args.k.base - x → c.args.k.base - c.sure-d.result.value ≡ x
is_line c x l e = omega arith

pub sure-d-requires : goal.sure-d-requires
sure-d-requires c =
    let p = c.requires in omega (arith, p.narrow, p.short, (here c.before.before).there)

pub overflow_sub-line : goal.overflow_sub-line
overflow_sub-line c =
    let x = here c.before.before.before.before.before in omega (arith, x.read (c.sure-d.ensures.0 bad_index))

pub overflow_add-next : goal.overflow_add-next
overflow_add-next c =
    let p = c.requires in omega (arith, p.short, (here c.before.before.before.before.before).there)

pub overflow_sub-next : goal.overflow_sub-next
overflow_sub-next c =
    omega (arith, c.requires.more)

pub returns : goal.returns
returns c =
    record {
      is = λ ns u h.
          let a = c.args in
          let x = next_in a.block.now a.k ns h (omega (arith, c.requires.more)) in
          line_to_lem a.block.now a.k x _ (is_line c.before.before.before.before x.line x.below (x.read (c.sure-d.ensures.0 bad_index)));
      width = refl;
      less = omega (arith, c.requires.more);
    }
