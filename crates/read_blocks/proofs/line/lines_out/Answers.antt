-- One line after the other. The invariant holds the lines that are laid and those still to be read; the measure is the bits that
-- are left.
use mathlib.Core.Path.{refl}
use native.Mathlib.Omega.{arith}
use lib.ListN.{length-take, length-drop}
use Rattle.find_parts.proofs.Laws.Lines.{line_next}
use Rattle.read_blocks.proofs.Laws.Lines.{lines_start, line_room, line_fits, line_on, lines_more, lines_all}
use borrow.Author.Rules.{rules}
use Rattle.read_blocks.proofs.line.lines_out.Goals as goal

pub loop-p-init : goal.loop-p-init
loop-p-init c =
    (refl, rw c.start-p.ensures (lines_start c.requires.reads c.requires.room))

pub line_out-l-requires : goal.line_out-l-requires
line_out-l-requires c =
    let done = c.loop-p.invariant.1 in
    let next = line_next done.left c.loop-p-test.true in
    record {
      narrow = c.requires.narrow;
      short = c.requires.short;
      value = next.value;
      behind = next.behind;
      reads = next.reads;
      room = simp (length-take, length-drop) (omega (arith, c.loop-p.invariant.0, line_room done next));
    }

pub overflow_add-at : goal.overflow_add-at
overflow_add-at c =
    let done = c.loop-p.invariant.1 in
    let next = line_next done.left c.loop-p-test.true in
    omega (arith, line_fits done next c.line_out-l.ensures)

pub overflow_add-n : goal.overflow_add-n
overflow_add-n c =
    let done = c.loop-p.invariant.1 in
    let next = line_next done.left c.loop-p-test.true in
    omega (arith, next.few)

pub loop-p-smaller : goal.loop-p-smaller
loop-p-smaller c =
    let done = c.loop-p.invariant.1 in
    let next = line_next done.left c.loop-p-test.true in
    omega (arith, line_on done next c.line_out-l.ensures)

pub loop-p-preserved : goal.loop-p-preserved
loop-p-preserved c =
    let done = c.loop-p.invariant.1 in
    let next = line_next done.left c.loop-p-test.true in
    (search rules, lines_more done next c.line_out-l.ensures)

pub returns : goal.returns
returns c =
    lines_all c.loop-p.invariant.1 c.loop-p-test.false refl refl
