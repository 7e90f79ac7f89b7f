-- By the bound, or measured.
use Rattle.std.proofs.Common.{arith}
use mathlib.Core.Path.{ap, ◌∙◌}
use Rattle.order_carry.specs.Carried.{size_number}
use Rattle.order_pairs.proofs.Laws.Limits.{most_within, words_placed, size_measured}
use Rattle.order_pairs.proofs.sizes.hold_size_after.Goals as goal

pub returns-then-most-le-MOST_BYTES-clause-number : goal.returns-then-most-le-MOST_BYTES-clause-number
returns-then-most-le-MOST_BYTES-clause-number c =
    most_within c.most_bytes-most.ensures c.if-most-lent.true c.if-most-le-MOST_BYTES.true

pub measure-sizes-requires : goal.measure-sizes-requires
measure-sizes-requires c =
    words_placed c.requires

pub returns-clause-number : goal.returns-clause-number
returns-clause-number c =
    size_measured c.measure-sizes.ensures (c.hold_size.ensures.number ∙ ap (size_number c.args.lent) (omega arith))
