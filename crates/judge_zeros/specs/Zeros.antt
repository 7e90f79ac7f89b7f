-- What the answer of the reader of zero bits means.
use Rattle.std.specs.Prelude.{ℕ, ◌*◌, List, length, Result, Ok, Err}
use Rattle.bits.specs.Reads.{Found, found, fault}

-- n is the refusal of a bit that is 1
abbrev pub cleared : ℕ → List ℕ → Result (Unit {0}) ℕ → Found (Unit {0})
cleared n s (Ok u) = found tt (8 * length s)
cleared n s (Err p) = fault n p
