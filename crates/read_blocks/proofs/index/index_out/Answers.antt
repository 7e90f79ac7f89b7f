-- Nothing for an empty block; else the start, the width as it stands in the block, and the lists: one behind the other.
use Rattle.std.proofs.Common.{arith, Bool, false, ◌==◌, Fits, w8, get_or, ◌<◌}
use Rattle.bits.specs.Bits.{Bits}
use Rattle.format.specs.Index.{Index, index_block}
use mathlib.Core.Path.{◌≡◌, ap}
use Prim.Native.Nat.{ℕ}
use mathlib.Core.Option.{Option, some}
use mathlib.Core.List.{List}
use lib.ListN.{length, length-take, length-drop}
use Rattle.bits.specs.Bytes.{bits_of}
use Rattle.bits.specs.Codec.{got}
use Rattle.bits.proofs.Laws.Place.{all_bytes}
use Rattle.bits.proofs.Laws.Reads.{at_place}
use Rattle.put_bytes.proofs.Laws.{laid_none, laid_next}
use Rattle.outcome.specs.Refusals.{bad_index}
use Rattle.format.specs.SheetSize.{index_size}
use Rattle.find_parts.proofs.Laws.Blocks.{no_index_lem}
use Rattle.read_blocks.proofs.Laws.Index.{IndexParts, index_parts, one_value}
use Rattle.read_blocks.proofs.index.index_out.Goals as goal

-- the index that is there
there : (lines : ℕ) (s : List ℕ) {b : Bool} {o : Option Index} {u : Bits} → ((i : ℕ) → Fits w8 (get_or s i 0)) → b ≡ (length s == 0) → b ≡ false
    → (index_block lines).dec (bits_of s) ≡ got o u → IndexParts lines s o
there lines s f e n h = let l : 0 < length s = grind arith in index_parts lines s (all_bytes s (λ i. (f i).fits)) l h

pub returns-then-is_empty : goal.returns-then-is_empty
returns-then-is_empty c =
    let e : length c.args.block.now ≡ 0 = grind arith in
    record { is = λ o u h. rw (no_index_lem c.args.lines c.args.block.now e h) (laid_none _) }

pub put_three-at-requires : goal.put_three-at-requires
put_three-at-requires c =
    let t = there c.args.lines c.args.block.now c.type_inv.block c.is_empty.ensures c.if-is_empty.false c.requires.reads in
    (omega (arith, c.requires.room, ap index_size t.is), omega arith, omega arith)

pub copy-at-requires : goal.copy-at-requires
copy-at-requires c =
    let t = there c.args.lines c.args.block.now c.type_inv.block c.is_empty.ensures c.if-is_empty.false c.requires.reads in
    simp (length-take, length-drop) (omega (arith, c.requires.room, ap index_size t.is, c.put_three-at.ensures.count))

pub lists_out-at-requires : goal.lists_out-at-requires
lists_out-at-requires c =
    let p = c.requires in
    let t = there c.args.lines c.args.block.now c.type_inv.block c.is_empty.ensures c.if-is_empty.false p.reads in
    let w : c.sure-w.result.value ≡ t.value.width = (one_value t.there.is (at_place c.start.ensures (c.sure-w.ensures.0 bad_index))).0 in
    let e : c.sure-w.result.next.at ≡ 8 = omega (arith, c.sure-w.ensures.1, c.start.ensures) in (
      omega (arith, w, t.narrow),
      p.few,
      record {
        short = p.short;
        place = (c.sure-w.ensures.0 bad_index).within;
        value = t.value.lists;
        left = t.left;
        reads = rw (w, e) t.lists;
        room = simp (length-take, length-drop) (omega (arith, p.room, ap index_size t.is, c.put_three-at.ensures.count, c.copy-at.ensures.count, ap length t.copied));
      },
    )

pub returns : goal.returns
returns c =
    let t = there c.args.lines c.args.block.now c.type_inv.block c.is_empty.ensures c.if-is_empty.false c.requires.reads in
    let w : c.sure-w.result.value ≡ t.value.width = (one_value t.there.is (at_place c.start.ensures (c.sure-w.ensures.0 bad_index))).0 in
    let e : c.sure-w.result.next.at ≡ 8 = omega (arith, c.sure-w.ensures.1, c.start.ensures) in
    let copied = rw t.copied at c.copy-at.ensures in
    let read = rw (w, e) at c.lists_out-at.ensures.1.reads in
    let laid = rw (one_value t.lists read).0 at c.lists_out-at.ensures.1.laid in
    record {
      is = λ v u h.
          let d : v ≡ some t.value = cc (h, c.requires.reads, t.is) in
          rw d (laid_next (laid_next c.put_three-at.ensures copied) laid);
    }
