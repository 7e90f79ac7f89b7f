-- View by view: each turn lists the view that starts at byte a, and the next one starts behind it.
use Rattle.std.proofs.Common.{◌<◌, ◌+◌, ℕ, List, length, sym, ap, subst, ◌∙◌, arith}
use Rattle.format.specs.Places.{view_at}
use Rattle.format.specs.declared.Widths.{Widths}
use Rattle.format.proofs.Laws.Record.{narrow}
use Rattle.find_parts.specs.Stands.{ViewAt}
use Rattle.find_parts.proofs.Laws.Record.{record_apart}
use Rattle.find_parts.proofs.Laws.View.{position_few}
use Rattle.find_parts.proofs.Laws.Views.{Sought, sought_first, sought_on, view_in_lem, view_end}
use Rattle.list_numbers.specs.Counts.{ListedThere, ListedAt}
use Rattle.list_numbers.specs.Listing as l
use Rattle.list_numbers.specs.declared.Listed.{Listed}
use Rattle.list_text.specs.Views.{ViewsToList}
use Rattle.list_text.proofs.view_lines.Goals as goal

-- view i of the record stands at byte a
module _ {w : Widths} {count : ℕ} {s : List ℕ} (there : ViewsToList w count s) {i a : ℕ} (sought : Sought there.value s i a) (k : i < count) where
  below : i < length there.value.views
  below = omega (arith, k, there.views)

  listed_there : ListedThere w s a
  listed_there =
      let r = record_apart s there.reads in
      record {
        narrow = rw there.widths (narrow r.fits);
        short = r.short;
        value = view_at there.value i;
        at = subst (λ (w : Widths). ViewAt w s a (view_at there.value i)) (sym there.widths) (view_in_lem sought below).at;
      }

  -- the numbers are the view's
  module _ {x : Listed} (told : ListedAt w s a x) where
    listed : ListedAt there.value.head.scale.widths s a x
    listed = subst (λ (w : Widths). ListedAt w s a x) there.widths told

    position_low : x.position < 11
    position_low =
        let at = (view_in_lem sought below).at in
        omega (arith, position_few at, ap (λ (x : l.Listed). x.position) (listed.is (view_at there.value i) at).0)

    next_sought : Sought there.value s (i + 1) x.next
    next_sought =
        let z = (listed.is (view_at there.value i) (view_in_lem sought below).at).1 ∙ view_end sought below in
        rw z (sought_on sought below)

pub loop-i-init : goal.loop-i-init
loop-i-init g c = let there = c.requires in (there, sought_first c.args.bytes.now there.reads)

pub listed_at-v-requires : goal.listed_at-v-requires
listed_at-v-requires g c = listed_there c.loop-i.invariant.0 c.loop-i.invariant.1 c.loop-i-test.true

pub view_line-requires : goal.view_line-requires
view_line-requires g c = position_low c.loop-i.invariant.0 c.loop-i.invariant.1 c.loop-i-test.true c.listed_at-v.ensures

pub loop-i-preserved : goal.loop-i-preserved
loop-i-preserved g c =
    (c.loop-i.invariant.0, next_sought c.loop-i.invariant.0 c.loop-i.invariant.1 c.loop-i-test.true c.listed_at-v.ensures)
