-- What the judge of a skeleton block reads and answers: of the block the number of its lines is kept.
use Rattle.std.specs.Prelude.{ℕ, ◌*◌, Bool, List, Result, Ok, Err, length}
use Rattle.bits.specs.Bits.{Bits}
use Rattle.bits.specs.Codec.{Read}
use Rattle.bits.specs.Reads.{Found, found, keeping}
use Rattle.outcome.specs.Why.{fault_of}
use Rattle.outcome.specs.declared.refusal.Fault.{Fault}
use Rattle.format.specs.Line.{skeleton}
use Rattle.format.specs.declared.Widths.{Widths}

unfoldable pub lines_dec : Widths → Bits → Read Bool ℕ
lines_dec w s = keeping length ((skeleton w).dec s)

-- the judge of the whole block s
abbrev pub lined : List ℕ → Result ℕ Fault → Found ℕ
lined s (Ok n) = found n (8 * length s)
lined s (Err f) = fault_of f
