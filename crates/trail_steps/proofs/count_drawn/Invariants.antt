-- The invariant: the count and what the codes that are left draw is what all of them draw.
use Rattle.std.proofs.Common.{◌≡◌, ◌+◌, ◌-◌, ◌*◌, ◌≤◌, length, drop}
use Rattle.bits.specs.Bytes.{bits_of}
use Rattle.trail_steps.specs.Elements.{codes_in, elements}
use Rattle.trail_steps.proofs.Laws.{drawn}
use Rattle.trail_steps.proofs.count_drawn.Given as goal

abbrev pub invariant-loop : goal.invariant-loop
invariant-loop l =
    ((l.end - l.counter) * l.walk.k ≤ 8 * length l.walk.block.now - l.codes.at)
    × (l.count ≤ l.counter)
    × (l.count + drawn l.walk.k (codes_in l.walk.k (l.end - l.counter) (drop l.codes.at (bits_of l.walk.block.now))) ≡ length (elements l.walk))
