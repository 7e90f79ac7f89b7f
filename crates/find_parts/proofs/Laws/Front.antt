-- Bytes that are read are bytes of the block: where bits of the block are those of some bytes, the block has these bytes there, and
-- what follows them is read from behind them.
use mathlib.Core.Path.{◌≡◌, refl, sym, ap, ◌∙◌}
use Prim.Native.Nat.{ℕ, ◌+◌, ◌*◌, ◌-◌, ◌≤◌}
use native.Mathlib.Omega.{arith}
use mathlib.Core.List.{List, ◌++◌}
use lib.ListN.{length, take, drop, length-append, length-drop, take-append-drop}
use lib.Seq.{take_at, drop_at, drop-drop}
use Rattle.bits.specs.Lists.{All}
use Rattle.bits.specs.ListsLaws.{all_rest}
use Rattle.bits.specs.Bits.{Bits}
use Rattle.bits.specs.Bytes.{Byte, bits_of, in_bytes}
use Rattle.bits.specs.BytesLaws.{length_bits_of, in_bits}
use Rattle.bits.proofs.Laws.Parts.{bits_drop, part, part_bits, part_bytes}
use Rattle.find_parts.proofs.Laws.InBytes.{Spells}

pub spelled_part : (s : List ℕ) (a : ℕ) {xs : List ℕ} {t : Bits} (r : Bits) → All Byte s → Spells xs t → drop (8 * a) (bits_of s) ≡ t ++ r → part s a (length xs) ≡ xs
spelled_part s a {xs} {t} r h p e =
    let n : ℕ = length xs in
    let l : length t ≡ 8 * n = ap length p.bits ∙ length_bits_of xs in
    let z : bits_of (part s a n) ≡ bits_of xs = part_bits s a n ∙ ap (take (8 * n)) e ∙ take_at t r (8 * n) l ∙ p.bits in
    sym (in_bits (part s a n) (part_bytes s a n h)) ∙ ap in_bytes z ∙ in_bits xs p.bytes

-- the block s has the bytes xs at byte a, and r is what follows them
pub record Front (s : List ℕ) (a : ℕ) (xs : List ℕ) (r : Bits) : Type 0 where
  pub within : a + length xs ≤ length s
  pub is : take (length xs) (drop a s) ≡ xs
  pub after : r ≡ drop (8 * (a + length xs)) (bits_of s)

pub front : (s : List ℕ) (a : ℕ) (xs : List ℕ) (r : Bits) → All Byte s → All Byte xs → a ≤ length s → drop (8 * a) (bits_of s) ≡ bits_of xs ++ r
    → Front s a xs r
front s a xs r f g h e =
    let ys : List ℕ = drop a s in
    let bytes : All Byte ys = all_rest Byte (take a s) ys (rw (take-append-drop a s) f) in
    let here : bits_of ys ≡ bits_of xs ++ r = bits_drop a s ∙ e in
    let cut : length (bits_of xs) ≡ 8 * length xs = length_bits_of xs in
    let l : length ys ≡ length s - a = length-drop a s in
    let m : length (bits_of ys) ≡ length (bits_of xs) + length r = ap length here ∙ length-append (bits_of xs) r in
    record {
      within = omega (arith, m, cut, l, length_bits_of ys);
      is = spelled_part s a r f (record { bytes = g; bits = refl }) e;
      after = let z : 8 * a + 8 * length xs ≡ 8 * (a + length xs) = omega arith in
          sym (ap (drop (8 * length xs)) e ∙ drop_at (bits_of xs) r (8 * length xs) cut) ∙ drop-drop (8 * length xs) (8 * a) (bits_of s) ∙ ap (λ (k : ℕ). drop k (bits_of s)) z;
    }
