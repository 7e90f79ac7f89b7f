-- Bits that stand at a place: what stands behind them, and a number that is read there.
use mathlib.Core.Path.{◌≡◌, sym, ap, ◌∙◌}
use Prim.Native.Nat.{ℕ, ◌+◌, ◌-◌, ◌*◌, ◌^◌, ◌≤◌, ◌<◌}
use native.Mathlib.Omega.{arith}
use mathlib.Core.List.{List, ◌++◌}
use lib.ListN.{length, drop, length-append}
use lib.Seq.{drop-drop, drop_at}
use Rattle.bits.specs.Bits.{Bits, bits_of_number}
use Rattle.bits.specs.Bytes.{bits_of}
use Rattle.bits.specs.Codec.{got, field_dec}
use Rattle.bits.specs.CodecLaws.{field_there}
use Rattle.bits.specs.Reads.{found, Reads}
use Rattle.bits.proofs.Laws.Reads.{length_rest}

module _ (s : List ℕ) (p : ℕ) (x r : Bits) (e : drop p (bits_of s) ≡ x ++ r) where
  pub stands_behind : (n : ℕ) → length x ≡ n → drop (p + n) (bits_of s) ≡ r
  stands_behind n l = sym (drop-drop n p (bits_of s)) ∙ ap (drop n) e ∙ drop_at x r n l

  pub stands_within : p ≤ 8 * length s → p + length x ≤ 8 * length s
  stands_within h =
      let l : 8 * length s - p ≡ length x + length r = sym (length_rest s p) ∙ ap length e ∙ length-append x r in
      omega arith

pub number_there : (e w : ℕ) {s : List ℕ} {p v n q : ℕ} (r : Bits) → v < 2 ^ w → drop p (bits_of s) ≡ bits_of_number w v ++ r → Reads (field_dec e w) s p (found n q)
    → n ≡ v
number_there e w {s} {v = v} {n = n} {q = q} r f b h =
    let z : got n (drop q (bits_of s)) ≡ got v r = sym h.is ∙ ap (field_dec e w) b ∙ field_there e w v r f in
    cc
