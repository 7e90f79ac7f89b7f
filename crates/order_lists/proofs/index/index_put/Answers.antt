-- The width, then the lists at it.
use native.Mathlib.Omega.{arith}
use mathlib.Core.Path.{◌≡◌, refl, subst}
use Prim.Native.Nat.{ℕ}
use Rattle.bits.specs.Codec.{field_dec}
use Rattle.bits.specs.Reads.{Reads, found}
use Rattle.outcome.specs.Refusals.{bad_index}
use Rattle.format.specs.Index.{FitsIndex}
use Rattle.orders.specs.Least.{index_of}
use lib.ListN.{length}
use Rattle.order_lists.specs.Index.{left}
use Rattle.find_parts.proofs.Laws.Index.{width_is_lem}
use Rattle.order_walk.proofs.Laws.Block.{before, width_there, width_narrow, as_many, lists_stand}
use Rattle.order_lists.proofs.Laws.Index.{block_room, least_right, put_end, put_index}
use Rattle.order_lists.proofs.index.index_put.Goals as goal
use Rattle.order_lists.proofs.index.index_put.Lts as lts
use Rattle.order_lists.proofs.index.index_put.Reads as reads
use Rattle.order_lists.proofs.index.index_put.Tie as tie

abbrev At-Start : Type 0
At-Start = lts.Start tie.the-claims reads.Pre reads.Post

abbrev At-After-sure-w : Type 0
At-After-sure-w = lts.After-sure tie.the-claims reads.Pre reads.Post

fits : (c : At-Start) → FitsIndex (length (left c.args.removal.now c.args.words.now c.requires.there.value)) (index_of (left c.args.removal.now c.args.words.now c.requires.there.value))
fits c = least_right (left c.args.removal.now c.args.words.now c.requires.there.value) c.requires.there.falls c.requires.there.kept

read : (c : At-After-sure-w) → Reads (field_dec bad_index 8) c.args.block.now 0 (found c.sure-w.result.value c.sure-w.result.next.at)
read c = subst (λ (n : ℕ). Reads (field_dec bad_index 8) c.args.block.now n (found c.sure-w.result.value c.sure-w.result.next.at)) c.start.ensures (c.sure-w.ensures.0 bad_index)

width_of : (c : At-After-sure-w) → c.sure-w.result.value ≡ c.requires.there.value.width
width_of c = width_is_lem c.args.lines c.args.block.now c.requires.there.reads (read c)

pub sure-w-requires : goal.sure-w-requires
sure-w-requires c =
    let p = c.requires.there in omega (arith, p.short, width_there c.args.block.now c.args.lines p.reads)

pub put_bits-requires : goal.put_bits-requires
put_bits-requires c =
    let p = c.requires in
    let r = block_room (left c.args.removal.now c.args.words.now p.there.value) {out = c.args.out.now} p.small p.room in
    record { below = omega (arith, p.least, (fits c.before.before.before.before.before.before.before.before).high); narrow = omega arith; room = omega (arith, r.room); near = omega (arith, r.near) }

pub lists_put-end-requires : goal.lists_put-end-requires
lists_put-end-requires c =
    let p = c.requires in
    let s = c.args.block.now in
    let n = c.args.lines in
    let r = block_room (left c.args.removal.now c.args.words.now p.there.value) {out = c.args.out.now} p.small p.room in
    let m = c.put_bits.ensures in
    rw (width_of c.before.before.before.before.before.before, p.least) (record {
      there = record {
        narrow = width_narrow s n p.there.reads;
        short = p.there.short;
        rising = p.there.rising;
        few = p.there.few;
        value = p.there.value.lists;
        behind = (before s n p.there.reads).after;
        at = lists_stand s n p.there.reads;
        count = as_many s n p.there.reads;
        falls = p.there.falls;
      };
      narrow = (fits c.before.before.before.before.before.before.before.before.before.before.before.before).high;
      fits = (fits c.before.before.before.before.before.before.before.before.before.before.before.before).lists;
      room = record { room = omega (arith, m.same, r.room); near = r.near };
    })

pub overflow_add-result : goal.overflow_add-result
overflow_add-result c =
    let p = c.requires in
    let r = block_room (left c.args.removal.now c.args.words.now p.there.value) {out = c.args.out.now} p.small p.room in
    omega (arith, put_end c.args.block.now c.args.lines c.args.words.now c.args.removal.now (read c.before.before.before.before.before.before.before.before.before) p.there.reads p.least p.there.falls p.there.kept c.lists_put-end.ensures, r.near)

pub returns : goal.returns
returns c =
    let p = c.requires in
    put_index c.args.block.now c.args.lines c.args.words.now c.args.removal.now (read c.before.before.before.before.before.before.before.before.before) p.there.reads p.least c.put_bits.ensures c.lists_put-end.ensures refl
