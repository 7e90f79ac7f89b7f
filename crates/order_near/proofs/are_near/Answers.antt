-- The width, the higher line's list, and the lower line in it.
use native.Mathlib.Omega.{arith}
use mathlib.Core.Path.{◌≡◌, subst}
use Prim.Native.Nat.{ℕ}
use mathlib.Core.List.{[]}
use lib.ListN.{get_or}
use Rattle.bits.specs.Codec.{field_dec}
use Rattle.bits.specs.Reads.{Reads, found}
use Rattle.outcome.specs.Refusals.{bad_index}
use Rattle.order_near.specs.Near.{FindThere}
use Rattle.find_parts.proofs.Laws.Index.{width_is_lem}
use Rattle.order_walk.proofs.Laws.Block.{before, width_there, width_narrow, as_many, lists_stand}
use Rattle.order_near.proofs.Laws.{near_is}
use Rattle.order_near.proofs.are_near.Goals as goal
use Rattle.order_near.proofs.are_near.Lts as lts
use Rattle.order_near.proofs.are_near.Reads as reads
use Rattle.order_near.proofs.are_near.Tie as tie

abbrev At-After-sure-w : Type 0
At-After-sure-w = lts.After-sure tie.the-claims reads.Pre reads.Post

read : (c : At-After-sure-w) → Reads (field_dec bad_index 8) c.args.block.now 0 (found c.sure-w.result.value c.sure-w.result.next.at)
read c = subst (λ (n : ℕ). Reads (field_dec bad_index 8) c.args.block.now n (found c.sure-w.result.value c.sure-w.result.next.at)) c.start.ensures (c.sure-w.ensures.0 bad_index)

width : (c : At-After-sure-w) → c.sure-w.result.value ≡ c.requires.value.width
width c = width_is_lem c.requires.lines c.args.block.now c.requires.reads (read c)

there : (c : At-After-sure-w) → FindThere c.sure-w.result.value c.args.block.now c.args.high
there c =
    let p = c.requires in
    let s = c.args.block.now in
    rw (width c) (record {
      narrow = width_narrow s p.lines p.reads;
      short = p.short;
      value = p.value.lists;
      behind = (before s p.lines p.reads).after;
      at = lists_stand s p.lines p.reads;
      there = omega (arith, as_many s p.lines p.reads, p.below);
      few = omega (arith, as_many s p.lines p.reads, p.few);
    })

pub sure-w-requires : goal.sure-w-requires
sure-w-requires c =
    let p = c.requires in omega (arith, p.short, width_there c.args.block.now p.lines p.reads)

pub list_of-list-requires : goal.list_of-list-requires
list_of-list-requires c =
    there (c.before)

pub list_has-requires : goal.list_has-requires
list_has-requires c =
    let t = there c.before.before in
    let F = c.list_of-list.ensures in
    let (v, a) = F.is t.value t.behind t.at t.there in
    record { narrow = omega (arith, t.narrow, F.width); short = t.short; value = get_or t.value c.args.high []; behind = v; at = a }

pub returns : goal.returns
returns c =
    near_is c.args.block.now c.args.high c.args.low (read c.before.before.before) c.list_of-list.ensures c.list_has.ensures
