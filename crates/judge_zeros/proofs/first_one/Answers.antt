-- The exponent of the power of 2 that the value reaches counts the bits behind its first 1. It is below n, as the value is below 2 to
-- the n.
use Rattle.std.proofs.Common.{ℕ, suc, ◌≡◌, ◌-◌, ◌^◌, ◌<◌, arith, ap}
use lib.Pow.{pow_mono}
use Rattle.judge_zeros.proofs.first_one.Goals as goal

fewer : (k n : ℕ) → 2 ^ k < 2 ^ n → k < n
fewer k n h = grind (arith, pow_mono)

pub overflow_sub-result-2 : goal.overflow_sub-result-2
overflow_sub-result-2 c = omega (arith, fewer c.ilog2.result c.args.n (omega (arith, c.ilog2.ensures.power_le, c.requires.1)))

pub returns : goal.returns
returns c =
    let a = c.args in
    let k = c.ilog2.result in
    let h = fewer k a.n (omega (arith, c.ilog2.ensures.power_le, c.requires.1)) in
    let e : a.n - (a.n - 1 - k) ≡ suc k = omega arith in
    let f : a.n - (a.n - 1 - k) - 1 ≡ k = omega arith in
    (omega arith, omega (arith, ap (λ (j : ℕ). 2 ^ j) e, c.ilog2.ensures.next_power_gt), omega (arith, ap (λ (j : ℕ). 2 ^ j) f, c.ilog2.ensures.power_le))
