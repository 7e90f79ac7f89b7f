-- Fields that are whole bytes: one byte, and two, by the bytes themselves. So code that goes over bytes needs no cursor.
use mathlib.Core.Path.{◌≡◌, sym, ap, ap₂, ◌∙◌}
use Prim.Native.Nat.{ℕ, ◌+◌, ◌*◌, ◌^◌, ◌≤◌, ◌<◌}
use native.Mathlib.Omega.{arith}
use mathlib.Core.List.{List, append-nil}
use lib.ListN.{length, get_or, take, drop}
use lib.Seq.{drop-cons}
use Rattle.bits.specs.Bits.{number_of_bits, bits_of_number}
use Rattle.bits.specs.BitsLaws.{number_bits}
use Rattle.bits.specs.Bytes.{bits_of}
use Rattle.bits.specs.BytesLaws.{length_bits_of}
use Rattle.bits.specs.Codec.{field_dec}
use Rattle.bits.specs.Reads.{found, Reads}
use Rattle.bits.proofs.Laws.Reads.{field_at, up_to}
use Rattle.bits.proofs.Laws.Parts.{part_bits}
use Rattle.bits.proofs.Laws.Place.{number_two}

module _ (s : List ℕ) (small : (i : ℕ) → get_or s i 0 < 2 ^ 8) where
  byte_number : (a : ℕ) → a < length s → number_of_bits (take 8 (drop (8 * a) (bits_of s))) ≡ get_or s a 0
  unfolding bits_of
  byte_number a l =
      let x = get_or s a 0 in
      ap number_of_bits (sym (part_bits s a 1) ∙ ap (λ (r : List ℕ). bits_of (take 1 r)) (drop-cons s a 0 l) ∙ append-nil (bits_of_number 8 x)) ∙ number_bits 8 x (small a)

  pub byte_reads : (e a : ℕ) → a < length s → Reads (field_dec e 8) s (8 * a) (found (get_or s a 0) (8 * (a + 1)))
  byte_reads e a l = up_to (omega arith) (field_at e s (8 * a) 8 (get_or s a 0) (omega arith) (omega arith) (sym (byte_number a l)))

  pub two_reads : (e a : ℕ) → a + 2 ≤ length s → Reads (field_dec e 16) s (8 * a) (found (get_or s a 0 * 256 + get_or s (a + 1) 0) (8 * (a + 2)))
  two_reads e a l =
      let p : 8 * a + 8 ≡ 8 * (a + 1) = omega arith in
      let low : number_of_bits (take 8 (drop (8 * a + 8) (bits_of s))) ≡ get_or s (a + 1) 0 = ap (λ (n : ℕ). number_of_bits (take 8 (drop n (bits_of s)))) p ∙ byte_number (a + 1) (omega arith) in
      let z : get_or s a 0 * 256 + get_or s (a + 1) 0 ≡ number_of_bits (take 16 (drop (8 * a) (bits_of s))) =
      sym (ap₂ (λ (x y : ℕ). x * 256 + y) (byte_number a (omega arith)) low) ∙ number_two (bits_of s) (8 * a) 8 8 (rw (length_bits_of s) (omega arith)) in
      up_to (omega arith) (field_at e s (8 * a) 16 (get_or s a 0 * 256 + get_or s (a + 1) 0) (omega arith) (omega arith) z)
