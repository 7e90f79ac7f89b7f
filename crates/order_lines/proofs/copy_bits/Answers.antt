-- Three parts, one behind the other. Where the first is not all, it ends at a whole byte of the output.
use native.Mathlib.Omega.{arith}
use mathlib.Core.Path.{◌≡◌}
use Prim.Native.Nat.{ℕ, ◌+◌, ◌-◌, ◌*◌, ◌/◌, ◌≤◌}
use Rattle.order_lines.specs.Copy.{Copied}
use Rattle.order_lines.proofs.Laws.Copy.{copied_none, copied_join, copied_place, room_behind}
use Rattle.order_lines.proofs.copy_bits.Goals as goal
use Rattle.order_lines.proofs.copy_bits.Lts as lts
use Rattle.order_lines.proofs.copy_bits.Reads as reads
use Rattle.order_lines.proofs.copy_bits.Tie as tie

abbrev At-After-min-few : Type 0
At-After-min-few = lts.After-min tie.the-claims reads.Pre reads.Post

abbrev At-After-copy_few-q : Type 0
At-After-copy_few-q = lts.After-copy_few tie.the-claims reads.Pre reads.Post

abbrev At-Else-from-end : Type 0
At-Else-from-end = lts.Else1 tie.the-claims reads.Pre reads.Post

abbrev At-After-copy_bytes : Type 0
At-After-copy_bytes = lts.After-copy_bytes tie.the-claims reads.Pre reads.Post

abbrev from : (c : At-After-min-few) → ℕ
from c = c.args.p + c.min-few.result

few : (c : At-After-min-few) → (from c ≤ c.args.end) × (c.min-few.result ≤ 7)
few c = (omega (arith, c.min-few.ensures, c.requires.order), omega (arith, c.min-few.ensures))

abbrev bytes : (c : At-After-min-few) → ℕ
bytes c = (c.args.end - from c) / 8

behind_first : (c : At-After-copy_few-q) → c.copy_few-q.result ≡ c.args.at + c.min-few.result
behind_first c =
    let a = c.args in
    omega (arith, (copied_place a.block.now a.p (from c.before.before) (omega arith) c.copy_few-q.ensures (omega (arith, (few c.before.before).0, c.requires.there))).0)

whole : (c : At-Else-from-end) → 8 * (c.copy_few-q.result / 8) ≡ c.copy_few-q.result
whole c = omega (arith, c.if-from-end.false, behind_first c.before.before.before, c.min-few.ensures, (few c.before.before.before.before.before).0)

two_parts : (c : At-After-copy_bytes) → Copied c.args.block.now c.args.p (from c.before.before.before.before.before.before.before + 8 * bytes c.before.before.before.before.before.before.before) c.args.out.now c.args.at c.copy_bytes.new.out (c.copy_few-q.result + 8 * bytes c.before.before.before.before.before.before.before)
two_parts c =
    let a = c.args in
    let q = c.copy_few-q.result in
    let n = bytes c.before.before.before.before.before.before.before in
    let e : 8 * (q / 8) ≡ q = whole c.before.before in
    let f : 8 * (q / 8 + n) ≡ q + 8 * n = omega (arith, e) in
    copied_join a.block.now a.p (from c.before.before.before.before.before.before.before) (omega arith) c.copy_few-q.ensures (from c.before.before.before.before.before.before.before + 8 * n) (omega arith) (rw (e, f) at c.copy_bytes.ensures)

pub copy_few-q-requires : goal.copy_few-q-requires
copy_few-q-requires c =
    let a = c.args in
    let s = a.block.now in
    (room_behind s a.p a.p (omega arith) (copied_none s a.p a.out.now a.at) c.requires (omega arith) (few c.before.before).0, omega (arith, (few c.before.before).1))

pub overflow_add-from : goal.overflow_add-from
overflow_add-from c =
    omega (arith, (few c.before.before.before.before.before).0, c.requires.there, c.requires.short)

pub returns-then-from-end : goal.returns-then-from-end
returns-then-from-end c =
    rw c.if-from-end.true at c.copy_few-q.ensures

pub overflow_sub-count : goal.overflow_sub-count
overflow_sub-count c =
    omega (arith, (few c.before.before.before.before.before.before).0)

pub copy_bytes-requires : goal.copy_bytes-requires
copy_bytes-requires c =
    let a = c.args in
    rw (whole c.before.before) (room_behind a.block.now a.p (from c.before.before.before.before.before.before.before) (omega arith) c.copy_few-q.ensures c.requires (omega arith) (omega (arith, (few c.before.before.before.before.before.before.before).0)))

pub overflow_mul-count : goal.overflow_mul-count
overflow_mul-count c =
    omega (arith, (few c.before.before.before.before.before.before.before.before.before.before.before).0, c.requires.there, c.requires.short)

pub overflow_add-q : goal.overflow_add-q
overflow_add-q c =
    omega (arith, behind_first c.before.before.before.before.before.before.before.before.before, (few c.before.before.before.before.before.before.before.before.before.before.before).0, (few c.before.before.before.before.before.before.before.before.before.before.before).1, c.requires.room.near)

pub overflow_mul-count-2 : goal.overflow_mul-count-2
overflow_mul-count-2 c =
    omega (arith, (few c.before.before.before.before.before.before.before.before.before.before.before).0, c.requires.there, c.requires.short)

pub overflow_add-from-2 : goal.overflow_add-from-2
overflow_add-from-2 c =
    omega (arith, (few c.before.before.before.before.before.before.before.before.before.before.before).0, c.requires.there, c.requires.short)

pub overflow_sub-end-2 : goal.overflow_sub-end-2
overflow_sub-end-2 c =
    omega (arith, (few c.before.before.before.before.before.before.before.before.before.before.before).0, c.requires.there, c.requires.short)

pub overflow_mul-count-3 : goal.overflow_mul-count-3
overflow_mul-count-3 c =
    omega (arith, (few c.before.before.before.before.before.before.before.before.before.before.before).0, c.requires.there, c.requires.short)

pub overflow_sub-end-3 : goal.overflow_sub-end-3
overflow_sub-end-3 c =
    omega (arith, (few c.before.before.before.before.before.before.before.before.before.before.before).0, c.requires.there, c.requires.short)

pub copy_few-requires : goal.copy_few-requires
copy_few-requires c =
    let a = c.args in
    (room_behind a.block.now a.p (from c.before.before.before.before.before.before.before.before.before.before.before + 8 * bytes c.before.before.before.before.before.before.before.before.before.before.before) (omega arith) (two_parts c.before.before.before.before) c.requires (omega arith) (omega (arith, (few c.before.before.before.before.before.before.before.before.before.before.before).0)), omega arith)

pub returns : goal.returns
returns c =
    let a = c.args in
    let m = from c.before.before.before.before.before.before.before.before.before.before.before.before.before.before + 8 * bytes c.before.before.before.before.before.before.before.before.before.before.before.before.before.before in
    let z : m + (a.end - from c.before.before.before.before.before.before.before.before.before.before.before.before.before.before - 8 * bytes c.before.before.before.before.before.before.before.before.before.before.before.before.before.before) ≡ a.end = omega (arith, (few c.before.before.before.before.before.before.before.before.before.before.before.before.before.before).0) in
    copied_join a.block.now a.p m (omega arith) (two_parts c.before.before.before.before.before.before.before) a.end (omega (arith, (few c.before.before.before.before.before.before.before.before.before.before.before.before.before.before).0)) (rw z at c.copy_few.ensures)
