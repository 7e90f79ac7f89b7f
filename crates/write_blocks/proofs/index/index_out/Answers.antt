-- No index where no 04 is; else its width, then its lists.
use native.Mathlib.Omega.{arith}
use mathlib.Core.Path.{sym, ◌∙◌}
use Rattle.write_blocks.proofs.Laws.IndexBlock.{index_none, index_some, index_here}
use Rattle.write_blocks.proofs.index.index_out.Goals as goal

pub returns-then-sheet-a : goal.returns-then-sheet-a
returns-then-sheet-a c = index_none (λ l t. absurd (omega (arith, c.if-sheet-a.true)))

pub returns-then-wide-ne4 : goal.returns-then-wide-ne4
returns-then-wide-ne4 c = index_none (λ l t. c.if-wide-ne4.true (c.wide.ensures ∙ t))

pub bounds-sheet-a-2 : goal.bounds-sheet-a-2
bounds-sheet-a-2 c = omega (arith, (index_here c.requires c.if-sheet-a.false (sym c.wide.ensures ∙ c.if-wide-ne4.false)).there)

pub put_bits-at-requires : goal.put_bits-at-requires
put_bits-at-requires c =
    let i = index_here c.requires c.if-sheet-a.false (sym c.wide.ensures ∙ c.if-wide-ne4.false) in
    let e = c.wide-w.ensures ∙ i.width in
    record { below = omega (arith, e, i.fits.high); narrow = omega arith; room = omega (arith, i.room.room); near = omega (arith, i.room.near) }

pub lists_put-requires : goal.lists_put-requires
lists_put-requires c =
    let i = index_here c.requires c.if-sheet-a.false (sym c.wide.ensures ∙ c.if-wide-ne4.false) in
    let e = c.wide-w.ensures ∙ i.width in
    let first = c.put_bits-at.ensures in
    rw e (record {
      narrow = i.fits.high;
      value = i.value.lists;
      rest = i.rest;
      run = i.lists;
      count = i.fits.count;
      fits = i.fits.lists;
      room = record { room = omega (arith, i.room.room, first.place, first.same); near = omega (arith, i.room.near, first.place) };
    })

pub returns : goal.returns
returns c =
    index_some c.requires.few c.if-sheet-a.false (sym c.wide.ensures ∙ c.if-wide-ne4.false) c.wide-w.ensures c.put_bits-at.ensures c.lists_put.ensures
