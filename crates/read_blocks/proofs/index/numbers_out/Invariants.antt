-- Neighbour by neighbour; the invariant is what is laid and what is still read.
use Prim.Native.Nat.{ℕ, ◌-◌, ◌*◌, ◌≤◌}
use lib.ListN.{length, drop}
use Rattle.bits.specs.Bytes.{bits_of}
use Rattle.put_bytes.specs.HighFirst.{two}
use Rattle.read_blocks.specs.ListOuts.{numbers_dec}
use Rattle.read_blocks.proofs.Laws.Underway.{Underway}
use Rattle.read_blocks.proofs.index.numbers_out.Given as goal

abbrev pub invariant-loop : goal.invariant-loop
invariant-loop l = (l.next.at ≤ 8 * length l.block)
    × (l.number ≤ l.l)
    × ((m : ℕ) × Underway two (λ x. 2) (numbers_dec l.w l.n 0 l.l (drop l.initial.next.at (bits_of l.block))) (numbers_dec l.w (l.n - l.counter) m l.number (drop l.next.at (bits_of l.block))) l.initial.out l.out l.written)
