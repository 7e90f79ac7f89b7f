-- One code after the other. The invariant holds the codes read, whose bytes are laid.
use mathlib.Core.Path.{◌≡◌}
use Prim.Native.Nat.{◌+◌, ◌*◌}
use lib.ListN.{take}
use Rattle.read_blocks.proofs.Laws.Line.{CodesDone}
use Rattle.read_blocks.proofs.line.codes_out.Given as goal

abbrev pub invariant-loop-byte : goal.invariant-loop-byte
invariant-loop-byte l = (l.codes.at ≡ l.initial.codes.at + l.byte-index * l.k) × CodesDone l.k l.block l.initial.codes.at (take l.n l.fn.out) l.byte-items l.codes.at l.byte-index
