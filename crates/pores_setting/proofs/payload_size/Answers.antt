-- So few elements of so few bits: no product wraps.
use native.Mathlib.Omega.{arith}
use Rattle.pores_setting.proofs.Laws.{few_bits_lem}
use Rattle.pores_setting.proofs.payload_size.Goals as goal

pub overflow_mul-result : goal.overflow_mul-result
overflow_mul-result c = omega (arith, few_bits_lem c.requires)

pub overflow_add-result : goal.overflow_add-result
overflow_add-result c = omega (arith, few_bits_lem c.requires)

pub overflow_add-result-2 : goal.overflow_add-result-2
overflow_add-result-2 c = omega (arith, few_bits_lem c.requires)
