-- What is kept of a skeleton block, from what its lines are read as.
use mathlib.Core.Path.{◌≡◌, sym, ap, ap₂, ◌∙◌}
use Prim.Native.Nat.{ℕ, ◌-◌, ◌*◌, ◌≤◌}
use native.Mathlib.Omega.{arith}
use mathlib.Core.List.{List}
use lib.ListN.{length}
use Rattle.bits.specs.Bits.{Bits}
use Rattle.bits.specs.Bytes.{bits_of}
use Rattle.bits.specs.Codec.{got, refused}
use Rattle.bits.specs.Reads.{found, fault, Reads, keeping}
use Rattle.bits.proofs.Laws.Reads.{gives, refuses}
use Rattle.bits.proofs.Laws.Parts.{drop_end}
use Rattle.format.specs.Line.{Line, skeleton}
use Rattle.format.specs.declared.Widths.{Widths}
use Rattle.card_lines.specs.Lines.{lines_dec}

module _ (w : Widths) (s : List ℕ) where
  pub block_bad : {e q : ℕ} → q ≤ 8 * length s → (skeleton w).dec (bits_of s) ≡ refused e (8 * length s - q) → Reads (lines_dec w) s 0 (fault e q)
  unfolding lines_dec
  block_bad {e} {q} i z = refuses _ e q i (ap (keeping length) z)

  pub block_good : {n : ℕ} (ls : List Line) (u : Bits) → length ls ≡ n → (skeleton w).dec (bits_of s) ≡ got ls u → Reads (lines_dec w) s 0 (found n (8 * length s))
  unfolding lines_dec
  block_good {n} ls u l z =
      gives _ n (8 * length s) (omega arith)
      (ap (keeping length) z ∙ ap₂ got l ((skeleton w).all (bits_of s) ls u z ∙ sym (drop_end s (8 * length s) (omega arith))))
