-- Its tag, its length and object 90, one behind the other.
use native.Mathlib.Omega.{arith}
use lib.ListN.{length}
use Rattle.put_bytes.proofs.Laws.{laid_next, room_behind}
use Rattle.card.specs.Stored.{length_out, object90_out}
use Rattle.card.proofs.Laws.Views.{inner_few, object_few}
use Rattle.card_writing.proofs.Laws.{inner_is, template_long, object_laid}
use Rattle.card_writing.proofs.object_put.Goals as goal

pub tagged_bytes-inner-requires : goal.tagged_bytes-inner-requires
tagged_bytes-inner-requires c =
    record { few = omega arith; small = omega (arith, c.requires.short) }

pub put_two-at-requires : goal.put_two-at-requires
put_two-at-requires c =
    (omega (arith, c.requires.room, template_long c.args.value.now c.tagged_bytes-inner.ensures), omega arith)

pub slice_bounds-put_length-count : goal.slice_bounds-put_length-count
slice_bounds-put_length-count c =
    omega (arith, c.requires.room, c.put_two-at.ensures.count, template_long c.args.value.now c.tagged_bytes-inner.ensures)

pub slice_bounds-put_length-start : goal.slice_bounds-put_length-start
slice_bounds-put_length-start c =
    omega (arith, c.requires.room, c.put_two-at.ensures.count, template_long c.args.value.now c.tagged_bytes-inner.ensures)

pub slice_bounds-put_length-end : goal.slice_bounds-put_length-end
slice_bounds-put_length-end c =
    omega (arith, c.requires.room, c.put_two-at.ensures.count, template_long c.args.value.now c.tagged_bytes-inner.ensures)

pub put_length-at-requires : goal.put_length-at-requires
put_length-at-requires c =
    let value = c.args.value.now in
    let t = c.tagged_bytes-inner.ensures in
    record {
      small = omega (arith, inner_is value t, inner_few value, c.requires.short);
      room = room_behind (length (length_out c.tagged_bytes-inner.result)) c.put_two-at.ensures (omega (arith, c.put_two-at.ensures.count, c.requires.room, template_long value t));
    }

pub overflow_add-at : goal.overflow_add-at
overflow_add-at c =
    let value = c.args.value.now in
    omega (arith, c.requires.room, c.requires.short, c.put_two-at.ensures.count, c.put_length-at.ensures.laid.count, template_long value c.tagged_bytes-inner.ensures, object_few value)

pub slice_bounds-inner_put-count : goal.slice_bounds-inner_put-count
slice_bounds-inner_put-count c =
    let value = c.args.value.now in
    omega (arith, c.requires.room, c.requires.short, c.put_two-at.ensures.count, c.put_length-at.ensures.laid.count, template_long value c.tagged_bytes-inner.ensures, object_few value)

pub slice_bounds-inner_put-start : goal.slice_bounds-inner_put-start
slice_bounds-inner_put-start c =
    let value = c.args.value.now in
    omega (arith, c.requires.room, c.requires.short, c.put_two-at.ensures.count, c.put_length-at.ensures.laid.count, template_long value c.tagged_bytes-inner.ensures, object_few value)

pub slice_bounds-inner_put-end : goal.slice_bounds-inner_put-end
slice_bounds-inner_put-end c =
    let value = c.args.value.now in
    omega (arith, c.requires.room, c.requires.short, c.put_two-at.ensures.count, c.put_length-at.ensures.laid.count, template_long value c.tagged_bytes-inner.ensures, object_few value)

pub inner_put-at-requires : goal.inner_put-at-requires
inner_put-at-requires c =
    let value = c.args.value.now in
    let p = c.put_two-at.ensures in
    let l = c.put_length-at.ensures.laid in
    record {
      short = c.requires.short;
      room = room_behind (length (object90_out value)) (laid_next p l) (omega (arith, p.count, l.count, c.requires.room, template_long value c.tagged_bytes-inner.ensures));
    }

pub overflow_add-at-2 : goal.overflow_add-at-2
overflow_add-at-2 c =
    let value = c.args.value.now in
    omega (arith, c.requires.short, c.put_two-at.ensures.count, c.put_length-at.ensures.laid.count, c.inner_put-at.ensures.laid.count, template_long value c.tagged_bytes-inner.ensures, object_few value)

pub returns : goal.returns
returns c =
    object_laid c.args.value.now c.tagged_bytes-inner.ensures (laid_next (laid_next c.put_two-at.ensures c.put_length-at.ensures.laid) c.inner_put-at.ensures.laid)
