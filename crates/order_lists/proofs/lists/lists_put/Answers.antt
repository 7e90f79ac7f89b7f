-- List by list. The invariant holds of whatever lists the block has: those after the order are put so far, the others are to come; and
-- `named` is the next line that is the higher one of a word.
use native.Mathlib.Omega.{arith}
use mathlib.Core.Path.{◌≡◌, refl, sym, ◌∙◌}
use mathlib.Core.Bool.{false}
use Rattle.orders.specs.Survive.{elem}
use Rattle.orders.specs.Listed.{removal_lines}
use Rattle.order_removal.proofs.Laws.Going.{Turn, turn}
use Rattle.order_words.specs.After.{heard_in}
use Rattle.order_lists.specs.Lists.{new_list, new_from}
use Rattle.order_lists.proofs.Laws.Lists.{Stand, next_behind, next_here, next_list}
use Rattle.order_lists.proofs.Laws.ListsPut.{ToPut, put_first, put_gone, put_list_fits, put_list_room, put_stays, put_done}
use borrow.Author.Rules.{rules}
use Rattle.order_lists.proofs.lists.lists_put.Goals as goal
use Rattle.order_lists.proofs.lists.lists_put.Goals.{In-loop-l, Else-is_ok}

next : (c : In-loop-l) → Turn (new_list (removal_lines c.args.removal.now) (heard_in c.args.words.now)) (removal_lines c.args.removal.now) c.args.lines (Stand c.args.w c.args.block.now c.requires.there.behind) (ToPut c.args.width (new_from (removal_lines c.args.removal.now) (heard_in c.args.words.now) 0 c.requires.there.value) c.loop-l.lists c.args.out.now c.loop-l.out c.loop-l.q) c.loop-l.l c.loop-l.p
next c = let p = c.requires in turn (c.loop-l.invariant.3 p.there.value p.there.behind p.there.at p.there.count p.fits) c.loop-l-test.true

kept : (c : Else-is_ok) → elem c.loop-l.l (removal_lines c.args.removal.now) ≡ false
kept c = sym c.rank_of.ensures.gone ∙ sym c.is_ok.ensures.value ∙ c.if-is_ok.false

pub next_high-named-requires : goal.next_high-named-requires
next_high-named-requires c =
    omega arith

pub loop-l-init : goal.loop-l-init
loop-l-init c =
    (omega arith, refl, c.next_high-named.ensures, put_first c.args.w c.args.block.now c.args.words.now c.args.removal.now c.args.width c.args.lines c.args.out.now)

pub about_line-about-requires : goal.about_line-about-requires
about_line-about-requires c =
    record { few = omega (arith, c.requires.there.few, c.loop-l-test.true); next = c.loop-l.invariant.2 }

pub list_at-found-requires : goal.list_at-found-requires
list_at-found-requires c =
    let p = c.requires.there in
    let x = next (goal.at.list_at-found-requires c).In-loop-l in
    record { narrow = p.narrow; short = p.short; value = x.value; behind = next_behind x; here = next_here x }

pub rank_of-requires : goal.rank_of-requires
rank_of-requires c =
    c.requires.there.rising

pub loop-l-preserved-then-is_ok : goal.loop-l-preserved-then-is_ok
loop-l-preserved-then-is_ok c = (
  omega (arith, c.loop-l.invariant.0),
  c.loop-l.invariant.1,
  c.about_line-about.ensures.next,
  put_gone c.args.w c.args.block.now c.args.words.now c.args.removal.now c.args.width c.args.lines c.loop-l.invariant.3 c.loop-l-test.true c.list_at-found.ensures (sym c.rank_of.ensures.gone ∙ sym c.is_ok.ensures.value ∙ c.if-is_ok.true),
)

pub list_put-q-requires : goal.list_put-q-requires
list_put-q-requires c =
    let p = c.requires in
    let x = next (goal.at.list_put-q-requires c).In-loop-l in
    let E = c.list_at-found.ensures in
    let B = c.about_line-about.ensures.bound in
    let fits = put_list_fits c.args.w c.args.block.now c.args.words.now c.args.removal.now c.args.width c.args.lines c.loop-l.invariant.3 c.loop-l-test.true E (kept (goal.at.list_put-q-requires c).Else-is_ok) B x in
    record {
      there = record {
        narrow = omega (arith, E.width, p.there.narrow);
        short = p.there.short;
        rising = p.there.rising;
        few = E.few;
        lines = omega (arith, p.there.few, c.loop-l-test.true);
        value = x.value;
        behind = next_behind x;
        at = next_list x E c.loop-l.lists B;
        falls = fits.falls;
      };
      narrow = p.narrow;
      fits = fits;
      room = put_list_room c.args.w c.args.block.now c.args.words.now c.args.removal.now c.args.width c.args.lines c.loop-l.invariant.3 c.loop-l-test.true E (kept (goal.at.list_put-q-requires c).Else-is_ok) B x p.room;
    }

pub overflow_add-lists : goal.overflow_add-lists
overflow_add-lists c =
    omega (arith, c.requires.there.few, c.loop-l-test.true, c.loop-l.invariant.0)

pub loop-l-preserved : goal.loop-l-preserved
loop-l-preserved c = (
  omega (arith, c.loop-l.invariant.0),
  search rules,
  c.about_line-about.ensures.next,
  put_stays c.args.w c.args.block.now c.args.words.now c.args.removal.now c.args.width c.args.lines c.loop-l.invariant.3 c.loop-l-test.true c.list_at-found.ensures (kept (goal.at.loop-l-preserved c).Else-is_ok) c.about_line-about.ensures.bound c.list_put-q.ensures,
)

pub returns : goal.returns
returns c =
    put_done c.args.w c.args.block.now c.args.words.now c.args.removal.now c.args.width c.args.lines c.loop-l.invariant.3 (omega (arith, c.loop-l-test.false))
