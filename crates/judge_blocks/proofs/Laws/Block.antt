-- A block behind its length, said once for every format of a block: the block is cut, or it is whole and is judged by itself. Each
-- law makes of that what is read from the length on.
use mathlib.Core.Path.{◌≡◌, sym, ap, ◌∙◌}
use Prim.Native.Nat.{ℕ, ◌+◌, ◌-◌, ◌*◌, ◌≤◌}
use native.Mathlib.Omega.{arith}
use mathlib.Core.Bool.{Bool}
use mathlib.Core.List.{List}
use lib.ListN.{length}
use Rattle.bits.specs.Bits.{Bits}
use Rattle.bits.specs.Codec.{Read}
use Rattle.bits.specs.Block.{Block}
use Rattle.bits.specs.SizedLaws.{prefixed}
use Rattle.bits.specs.Reads.{found, fault, Reads, keeping}
use Rattle.bits.proofs.Laws.Reads.{known}
use Rattle.bits.proofs.Laws.Parts.{part, behind_cut, behind_past, behind_bad, behind_good}
use Rattle.outcome.specs.Refusals.{past}
use Rattle.judge_blocks.specs.Answers.{WholeAt, Cut, length_past, block_past}

-- w is the block's format, and f what is kept of its value
module _ {A B : Type 0} (w : Block A) (f : A → B) where
  abbrev judge : Bits → Read Bool B
  judge x = keeping f (w.dec x)

  abbrev from_length : Bits → Read Bool B
  from_length x = keeping f ((prefixed w past).dec x)

  pub block_cut : {s : List ℕ} {a p : ℕ} → a ≤ length s → Cut s a p → Reads from_length s (8 * a) (fault past p)
  block_cut {s} {a} i (length_past h e) = known (ap (fault past) (sym e)) (behind_cut w f s a i h)
  block_cut {s} {a} i (block_past n k h e) = known (ap (fault past) (sym e)) (behind_past w f s a n _ k (omega arith) (omega (arith, k.within)) h)

  -- the block as the code cuts it out
  module _ {s : List ℕ} {a b e : ℕ} (h : WholeAt s a b e) {block : List ℕ} (d : block ≡ part s b (e - b)) where
    same : block ≡ part s (a + 2) (e - b)
    same = d ∙ ap (λ (n : ℕ). part s n (e - b)) h.start

    pub block_bad : {x q : ℕ} → Reads judge block 0 (fault x q) → Reads from_length s (8 * a) (fault x (8 * b + q))
    block_bad {x} {q} k =
        known (ap (λ (n : ℕ). fault x (8 * n + q)) (sym h.start))
        (behind_bad w f s a _ _ h.counted (omega (arith, h.start)) block same (omega (arith, h.start, h.ordered, h.within)) k)

    pub block_good : {v : B} {y : ℕ} → Reads judge block 0 (found v y) → Reads from_length s (8 * a) (found v (8 * e))
    block_good {v} k =
        let z : a + 2 + (e - b) ≡ e = omega (arith, h.start, h.ordered) in
        known (ap (λ (n : ℕ). found v (8 * n)) z)
        (behind_good w f s a _ _ h.counted (omega (arith, h.start)) block same (omega (arith, h.start, h.ordered, h.within)) k)
