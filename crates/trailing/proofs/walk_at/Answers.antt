-- The line is there, so its start, its count and its codes are; the heading and what the codes draw are the trail's.
use native.Mathlib.Omega.{arith}
use mathlib.Core.Path.{◌≡◌, refl}
use Prim.Native.Nat.{◌+◌, ◌*◌}
use Rattle.bits.proofs.Laws.Reads.{at_place, below}
use Rattle.outcome.specs.Refusals.{bad_line}
use Rattle.format.specs.Line.{end_bits}
use Rattle.trailing.proofs.Laws.{direction_there, count_there, draws}
use Rattle.trailing.proofs.walk_at.Goals as goal

pub overflow_add-p : goal.overflow_add-p
overflow_add-p c =
    let pre = c.requires.0 in omega (arith, pre.short, direction_there c.args.scale pre.reads)

pub sure-direction-requires : goal.sure-direction-requires
sure-direction-requires c =
    let pre = c.requires.0 in (pre.short, omega (arith, pre.narrow.b), direction_there c.args.scale pre.reads)

pub overflow_add-p-4 : goal.overflow_add-p-4
overflow_add-p-4 c =
    let pre = c.requires.0 in omega (arith, pre.short, pre.narrow.b, pre.narrow.c, count_there c.args.scale pre.reads)

pub sure-count-requires : goal.sure-count-requires
sure-count-requires c =
    let pre = c.requires.0 in (pre.short, omega arith, omega (arith, count_there c.args.scale pre.reads))

pub first_heading-requires : goal.first_heading-requires
first_heading-requires c =
    let pre = c.requires in (pre.0.narrow.b, below bad_line c.args.scale.widths.b (c.sure-direction.ensures.0 bad_line), pre.1, pre.2)

pub returns : goal.returns
returns c =
    let pre = c.requires in
    let sc = c.args.scale in
    let e : c.args.p + 2 + sc.widths.b + 2 * sc.widths.c ≡ c.args.p + end_bits sc.widths = omega arith in
    rw (c.start.ensures, c.first_heading.ensures) (record {
      is = λ l q h. draws sc h (at_place e (c.sure-count.ensures.0 bad_line)) (c.sure-direction.ensures.0 bad_line) c.args.block refl pre.0.narrow pre.0.short pre.1 pre.2;
    })
