-- List by list. The invariant holds of whatever lists the block has: those after the order are measured so far, the others are to come;
-- and `named` is the next line that is the higher one of a word.
use native.Mathlib.Omega.{arith}
use mathlib.Core.Path.{◌≡◌, sym, ◌∙◌}
use Prim.Native.Nat.{◌+◌, ◌≤◌}
use mathlib.Core.Bool.{false}
use Rattle.orders.specs.Survive.{elem}
use Rattle.orders.specs.Listed.{removal_lines}
use Rattle.order_removal.proofs.Laws.Going.{Turn, turn}
use Rattle.order_words.specs.After.{heard_in}
use Rattle.order_lists.specs.Lists.{new_list, new_from}
use Rattle.order_lists.proofs.Laws.Lists.{Stand, next_behind, next_here, next_list, Measured, going_first, going_gone, list_falls, count_few, going_stays, going_done}
use Rattle.order_lists.proofs.lists.lists_numbers.Goals as goal
use Rattle.order_lists.proofs.lists.lists_numbers.Goals.{In-loop-l, Else-is_ok, After-list_numbers-numbers}

next : (c : In-loop-l) → Turn (new_list (removal_lines c.args.removal.now) (heard_in c.args.words.now)) (removal_lines c.args.removal.now) c.args.lines (Stand c.args.w c.args.block.now c.requires.behind) (Measured (new_from (removal_lines c.args.removal.now) (heard_in c.args.words.now) 0 c.requires.value) c.loop-l.lists c.loop-l.entries c.loop-l.most) c.loop-l.l c.loop-l.p
next c = let p = c.requires in turn (c.loop-l.invariant.3 p.value p.behind p.at p.count p.falls) c.loop-l-test.true

kept : (c : Else-is_ok) → elem c.loop-l.l (removal_lines c.args.removal.now) ≡ false
kept c = sym c.rank_of.ensures.gone ∙ sym c.is_ok.ensures.value ∙ c.if-is_ok.false

few : (c : After-list_numbers-numbers) → c.list_numbers-numbers.result.count ≤ c.loop-l.lists + 1
few c = count_few c.args.w c.args.block.now c.args.words.now c.args.removal.now c.args.lines c.loop-l.invariant.3 c.loop-l-test.true c.list_at-found.ensures (sym c.rank_of.ensures.gone ∙ sym c.is_ok.ensures.value ∙ c.if-is_ok.false) c.about_line-about.ensures.bound (let p = c.requires in turn (c.loop-l.invariant.3 p.value p.behind p.at p.count p.falls) c.loop-l-test.true) c.list_numbers-numbers.ensures

pub next_high-named-requires : goal.next_high-named-requires
next_high-named-requires c =
    omega arith

pub loop-l-init : goal.loop-l-init
loop-l-init c =
    (omega arith, omega arith, c.next_high-named.ensures, going_first c.args.w c.args.block.now c.args.words.now c.args.removal.now c.args.lines)

pub about_line-about-requires : goal.about_line-about-requires
about_line-about-requires c =
    record { few = omega (arith, c.requires.few, c.loop-l-test.true); next = c.loop-l.invariant.2 }

pub list_at-found-requires : goal.list_at-found-requires
list_at-found-requires c =
    let p = c.requires in
    let x = next (goal.at.list_at-found-requires c).In-loop-l in
    record { narrow = p.narrow; short = p.short; value = x.value; behind = next_behind x; here = next_here x }

pub rank_of-requires : goal.rank_of-requires
rank_of-requires c =
    c.requires.rising

pub loop-l-preserved-then-is_ok : goal.loop-l-preserved-then-is_ok
loop-l-preserved-then-is_ok c = (
  omega (arith, c.loop-l.invariant.0),
  c.loop-l.invariant.1,
  c.about_line-about.ensures.next,
  going_gone c.args.w c.args.block.now c.args.words.now c.args.removal.now c.args.lines c.loop-l.invariant.3 c.loop-l-test.true c.list_at-found.ensures (sym c.rank_of.ensures.gone ∙ sym c.is_ok.ensures.value ∙ c.if-is_ok.true),
)

pub list_numbers-numbers-requires : goal.list_numbers-numbers-requires
list_numbers-numbers-requires c =
    let p = c.requires in
    let x = next (goal.at.list_numbers-numbers-requires c).In-loop-l in
    let E = c.list_at-found.ensures in
    let B = c.about_line-about.ensures.bound in
    record {
      narrow = omega (arith, E.width, p.narrow);
      short = p.short;
      rising = p.rising;
      few = E.few;
      lines = omega (arith, p.few, c.loop-l-test.true);
      value = x.value;
      behind = next_behind x;
      at = next_list x E c.loop-l.lists B;
      falls = list_falls c.args.w c.args.block.now c.args.words.now c.args.removal.now c.args.lines c.loop-l.invariant.3 c.loop-l-test.true E (kept (goal.at.list_numbers-numbers-requires c).Else-is_ok) B x;
    }

pub overflow_add-entries : goal.overflow_add-entries
overflow_add-entries c =
    omega (arith, few (goal.at.overflow_add-entries c).After-list_numbers-numbers, c.loop-l.invariant.0, c.loop-l.invariant.1, c.requires.few, c.loop-l-test.true)

pub overflow_add-lists : goal.overflow_add-lists
overflow_add-lists c =
    omega (arith, few (goal.at.overflow_add-lists c).After-list_numbers-numbers, c.loop-l.invariant.0, c.loop-l.invariant.1, c.requires.few, c.loop-l-test.true)

pub loop-l-preserved : goal.loop-l-preserved
loop-l-preserved c = (
  omega (arith, c.loop-l.invariant.0),
  omega (arith, few (goal.at.loop-l-preserved c).After-list_numbers-numbers, c.loop-l.invariant.0, c.loop-l.invariant.1, c.requires.few, c.loop-l-test.true),
  c.about_line-about.ensures.next,
  going_stays c.args.w c.args.block.now c.args.words.now c.args.removal.now c.args.lines c.loop-l.invariant.3 c.loop-l-test.true c.list_at-found.ensures (kept (goal.at.loop-l-preserved c).Else-is_ok) c.about_line-about.ensures.bound c.list_numbers-numbers.ensures (omega (arith, c.max-most.ensures, c.max.ensures)),
)

pub returns : goal.returns
returns c =
    going_done c.args.w c.args.block.now c.args.words.now c.args.removal.now c.args.lines c.loop-l.invariant.3 (omega (arith, c.loop-l-test.false))
