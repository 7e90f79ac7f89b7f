-- The start with the count, then the neighbours: one behind the other.
use native.Mathlib.Omega.{arith}
use mathlib.Core.Path.{◌≡◌}
use Prim.Native.Nat.{◌≤◌}
use lib.ListN.{length-take, length-drop}
use Rattle.outcome.specs.Refusals.{bad_index}
use Rattle.put_bytes.proofs.Laws.{laid_next}
use Rattle.read_blocks.proofs.Laws.Index.{list_parts, list_reads, numbers_length, one_value}
use Rattle.read_blocks.proofs.index.list_out.Goals as goal

pub sure-count-requires : goal.sure-count-requires
sure-count-requires c =
    let p = c.requires.2 in
    let t = list_parts c.args.w c.args.l c.args.block.now c.args.p.at p.place p.reads in
    (p.short, c.requires.0, omega (arith, t.there.within))

pub overflow_mul-count : goal.overflow_mul-count
overflow_mul-count c =
    let p = c.requires.2 in
    let t = list_parts c.args.w c.args.l c.args.block.now c.args.p.at p.place p.reads in
    omega (arith, (one_value t.there.is (c.sure-count.ensures.0 bad_index)).0, t.few, c.requires.1)

pub put_three-at-requires : goal.put_three-at-requires
put_three-at-requires c =
    let p = c.requires.2 in
    let t = list_parts c.args.w c.args.l c.args.block.now c.args.p.at p.place p.reads in
    let few : c.sure-count.result.value ≤ 1024 = omega (arith, (one_value t.there.is (c.sure-count.ensures.0 bad_index)).0, t.few, c.requires.1) in
    (omega (arith, p.room), omega arith, omega (arith, few))

pub numbers_out-list-requires : goal.numbers_out-list-requires
numbers_out-list-requires c =
    let p = c.requires.2 in
    let t = list_parts c.args.w c.args.l c.args.block.now c.args.p.at p.place p.reads in
    let n : c.sure-count.result.value ≡ t.count = (one_value t.there.is (c.sure-count.ensures.0 bad_index)).0 in (
      c.requires.0,
      c.requires.1,
      record {
        short = p.short;
        place = (c.sure-count.ensures.0 bad_index).within;
        value = p.value;
        left = p.left;
        reads = rw (n, c.sure-count.ensures.1) t.numbers;
        room = simp (length-take, length-drop) (omega (arith, p.room, c.put_three-at.ensures.count));
      },
    )

pub returns : goal.returns
returns c =
    let a = c.args in
    let o = c.numbers_out-list.ensures in
    let all = numbers_length a.w c.sure-count.result.value 0 a.l _ o.reads.is in
    record {
      value = o.value;
      reads = list_reads a.w a.l (c.sure-count.ensures.0 bad_index) o.reads;
      laid = rw (← all) at (laid_next c.put_three-at.ensures o.laid);
    }
