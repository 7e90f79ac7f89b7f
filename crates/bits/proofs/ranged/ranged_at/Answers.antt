-- `bits::ranged::ranged_at` meets its contract: a field of 8 bits, then the two tests of its range. Whichever fails, the refusal is
-- at the byte.
use Rattle.std.proofs.lemmas.Result.{err_from_is_err_and}
use Rattle.bits.proofs.Laws.Reads.{stays, ranged_ok, ranged_low, ranged_high}
use Rattle.bits.proofs.ranged.ranged_at.Goals as goal

pub returns-in_err-byte : goal.returns-in_err-byte
returns-in_err-byte c =
    let p = err_from_is_err_and c.from_residual.result c.from_residual.ensures.1 in
    rw (p.1, p.2) (λ e. stays _ e _ (c.in_err-byte.ensures e))

pub returns-then-byte-low : goal.returns-then-byte-low
returns-then-byte-low c =
    λ e. ranged_low e 8 (c.in_ok-byte.ensures e) c.args.low c.args.high c.requires.1 c.if-byte-low.true

pub returns-then-high-byte : goal.returns-then-high-byte
returns-then-high-byte c =
    λ e. ranged_high e 8 (c.in_ok-byte.ensures e) c.args.low c.args.high c.requires.1 c.if-high-byte.true

pub returns : goal.returns
returns c =
    λ e. ranged_ok e 8 (c.in_ok-byte.ensures e) c.args.low c.args.high c.if-byte-low.false c.if-high-byte.false
