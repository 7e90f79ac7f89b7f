-- Its tag, its length and the value, one behind the other.
use native.Mathlib.Omega.{arith}
use lib.ListN.{length}
use Rattle.put_bytes.proofs.Laws.{laid_next, room_behind}
use Rattle.card.specs.Stored.{length_out}
use Rattle.card.proofs.Laws.Written.{inner_long}
use Rattle.card_writing.proofs.inner_put.Goals as goal

pub copy-at-requires : goal.copy-at-requires
copy-at-requires c =
    omega (arith, c.requires.room, inner_long c.args.value.now)

pub slice_bounds-put_length-count : goal.slice_bounds-put_length-count
slice_bounds-put_length-count c =
    omega (arith, c.copy-at.ensures.count, c.requires.room, inner_long c.args.value.now)

pub slice_bounds-put_length-start : goal.slice_bounds-put_length-start
slice_bounds-put_length-start c =
    omega (arith, c.copy-at.ensures.count, c.requires.room, inner_long c.args.value.now)

pub slice_bounds-put_length-end : goal.slice_bounds-put_length-end
slice_bounds-put_length-end c =
    omega (arith, c.copy-at.ensures.count, c.requires.room, inner_long c.args.value.now)

pub put_length-at-requires : goal.put_length-at-requires
put_length-at-requires c =
    record {
      small = omega (arith, c.requires.short);
      room = room_behind (length (length_out (length c.args.value.now))) c.copy-at.ensures (omega (arith, c.copy-at.ensures.count, c.requires.room, inner_long c.args.value.now));
    }

pub overflow_add-at : goal.overflow_add-at
overflow_add-at c =
    omega (arith, c.copy-at.ensures.count, c.put_length-at.ensures.laid.count, c.requires.room, c.requires.short, inner_long c.args.value.now)

pub slice_bounds-copy-count : goal.slice_bounds-copy-count
slice_bounds-copy-count c =
    omega (arith, c.copy-at.ensures.count, c.put_length-at.ensures.laid.count, c.requires.room, c.requires.short, inner_long c.args.value.now)

pub slice_bounds-copy-start : goal.slice_bounds-copy-start
slice_bounds-copy-start c =
    omega (arith, c.copy-at.ensures.count, c.put_length-at.ensures.laid.count, c.requires.room, c.requires.short, inner_long c.args.value.now)

pub slice_bounds-copy-end-2 : goal.slice_bounds-copy-end-2
slice_bounds-copy-end-2 c =
    omega (arith, c.copy-at.ensures.count, c.put_length-at.ensures.laid.count, c.requires.room, c.requires.short, inner_long c.args.value.now)

pub copy-at-requires-2 : goal.copy-at-requires-2
copy-at-requires-2 c =
    room_behind (length c.args.value.now) (laid_next c.copy-at.ensures c.put_length-at.ensures.laid) (omega (arith, c.copy-at.ensures.count, c.put_length-at.ensures.laid.count, c.requires.room, inner_long c.args.value.now))

pub overflow_add-at-2 : goal.overflow_add-at-2
overflow_add-at-2 c =
    omega (arith, c.copy-at.ensures.count, c.put_length-at.ensures.laid.count, c.copy-at-2.ensures.count, c.requires.room, c.requires.short, inner_long c.args.value.now)

pub returns : goal.returns
returns c =
    record { laid = laid_next (laid_next c.copy-at.ensures c.put_length-at.ensures.laid) c.copy-at-2.ensures }
