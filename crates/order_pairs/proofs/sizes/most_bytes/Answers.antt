-- The old index block's width divides what is left of its bits; and the sums and products stay small.
use native.Mathlib.Omega.{arith}
use Rattle.bits.proofs.Laws.Place.{all_bytes}
use Rattle.order_pairs.proofs.Laws.Size.{width_there, block_short, few_numbers, few_bits_lem, at_most}
use Rattle.order_pairs.proofs.sizes.most_bytes.Goals as goal

pub overflow_cast-old : goal.overflow_cast-old
overflow_cast-old c = omega (arith, c.type_inv.bytes c.args.site.index.from)

pub overflow_mul-numbers : goal.overflow_mul-numbers
overflow_mul-numbers c = omega (arith, block_short c.requires.there)

pub nonzero_div-numbers : goal.nonzero_div-numbers
nonzero_div-numbers c = omega (arith, width_there c.requires.there (all_bytes c.args.bytes.now (λ i. (c.type_inv.bytes i).fits)))

pub overflow_add-numbers : goal.overflow_add-numbers
overflow_add-numbers c = omega (arith, few_numbers c.requires.there c.requires.few)

pub overflow_mul-index : goal.overflow_mul-index
overflow_mul-index c = omega (arith, few_bits_lem c.requires.there c.requires.few c.least_width.ensures)

pub overflow_add-index : goal.overflow_add-index
overflow_add-index c = omega (arith, few_bits_lem c.requires.there c.requires.few c.least_width.ensures)

pub overflow_add-index-2 : goal.overflow_add-index-2
overflow_add-index-2 c = omega (arith, few_bits_lem c.requires.there c.requires.few c.least_width.ensures)

pub overflow_add-result : goal.overflow_add-result
overflow_add-result c =
    omega (arith, block_short c.requires.there, few_bits_lem c.requires.there c.requires.few c.least_width.ensures)

pub overflow_add-result-2 : goal.overflow_add-result-2
overflow_add-result-2 c =
    omega (arith, block_short c.requires.there, few_bits_lem c.requires.there c.requires.few c.least_width.ensures)

pub returns : goal.returns
returns c = rw c.least_width.ensures (at_most c.args.orders c.requires.there.index (all_bytes c.args.bytes.now (λ i. (c.type_inv.bytes i).fits)))
