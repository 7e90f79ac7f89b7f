-- The count is read, and the differences follow it.
use native.Mathlib.Omega.{arith}
use mathlib.Core.Path.{◌≡◌, refl, ap}
use Prim.Native.Nat.{ℕ, ◌*◌}
use lib.ListN.{length}
use Rattle.outcome.specs.Refusals.{bad_index}
use Rattle.order_walk.proofs.Laws.Block.{count_there, count_is, count_small, list_there, walk_starts}
use Rattle.order_walk.proofs.walk.list_at.Goals as goal
use Rattle.order_walk.proofs.walk.list_at.Lts as lts
use Rattle.order_walk.proofs.walk.list_at.Reads as reads
use Rattle.order_walk.proofs.walk.list_at.Tie as tie

abbrev At-After-sure-count : Type 0
At-After-sure-count = lts.After-sure tie.the-claims reads.Pre reads.Post

counted : (c : At-After-sure-count) → c.sure-count.result.value ≡ length c.requires.value
counted c = count_is c.args.w c.args.block.now c.args.p c.args.l c.requires.value c.requires.here (c.sure-count.ensures.0 bad_index)

pub sure-count-requires : goal.sure-count-requires
sure-count-requires c =
    let a = c.args in let p = c.requires in omega (arith, p.narrow, p.short, count_there a.w a.block.now a.p a.l p.value p.here)

pub overflow_mul-result : goal.overflow_mul-result
overflow_mul-result c =
    let a = c.args in let p = c.requires in omega (arith, p.short, list_there a.w a.block.now a.p a.l p.value p.here, ap (λ (n : ℕ). n * a.w) (counted (c.before)))

pub overflow_add-result : goal.overflow_add-result
overflow_add-result c =
    let a = c.args in let p = c.requires in omega (arith, p.short, list_there a.w a.block.now a.p a.l p.value p.here, ap (λ (n : ℕ). n * a.w) (counted (c.before)))

pub returns : goal.returns
returns c =
    let a = c.args in
    let p = c.requires in
    record {
      few = omega (arith, counted (c.before), count_small a.w a.block.now a.p a.l p.value p.here p.narrow);
      width = refl;
      is = λ ns u h.
          let e = count_is a.w a.block.now a.p a.l ns h (c.sure-count.ensures.0 bad_index) in
          (walk_starts a.w a.block.now a.p a.l ns h e, omega (arith, ap (λ (n : ℕ). n * a.w) e));
    }
