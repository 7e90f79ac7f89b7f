-- Byte by byte. The invariant: the bits up to here are copied.
use mathlib.Core.Path.{◌≡◌}
use Prim.Native.Nat.{◌-◌, ◌≤◌}
use lib.ListN.{length}
use Rattle.order_lines.proofs.Laws.Copy.{BytesCopied}
use Rattle.order_lines.proofs.copy_bytes.Given as goal

abbrev pub invariant-loop-i : goal.invariant-loop-i
invariant-loop-i l = (l.i ≤ l.count) × (length l.out ≡ length l.initial.out) × BytesCopied l.block l.p l.a l.i l.initial.out l.out
