-- Bits as cells: any bits, as many as the cells take, are those of some values, and the bits of a value stand where its cell does. And
-- bits that are zero.
use mathlib.Core.Path.{◌≡◌, refl, sym, ap, ap₂, ◌∙◌}
use Prim.Native.Nat.{ℕ, zero, suc, ◌+◌, ◌*◌, ◌^◌, ◌≤◌, ◌<◌}
use native.Mathlib.Nat.{suc-mul}
use native.Mathlib.Omega.{arith}
use mathlib.Core.Bool.{true, false}
use mathlib.Core.List.{List, [], ◌∷◌, ◌++◌, append_assoc}
use lib.ListN.{length, take, drop, length-drop, take-append-drop}
use lib.Pow.{pow_pos}
use lib.Seq.{length-take-le, drop_at, drop-drop}
use Rattle.bits.specs.Lists.{All}
use Rattle.bits.specs.Bits.{Bits, number_of_bits, bits_of_number, zeros}
use Rattle.bits.specs.BitsLaws.{length_bits, number_lt, bits_number}
use Rattle.bits.specs.Codec.{got, field_dec}
use Rattle.bits.specs.CodecLaws.{field_there}
use Rattle.quality_cells.proofs.Laws.Written.{cell_bits}

-- ---- numbers

-- the number in front of bits, and the bits behind it, are known by all of them
pub same_number : (w a b : ℕ) (r t : Bits) → a < 2 ^ w → b < 2 ^ w → bits_of_number w a ++ r ≡ bits_of_number w b ++ t → (a ≡ b) × (r ≡ t)
same_number w a b r t h k e =
    let z : got a r ≡ got b t = sym (field_there 0 w a r h) ∙ ap (field_dec 0 w) e ∙ field_there 0 w b t k in
    (cc, cc)

-- only zeros are the number 0
pub all_zeros : (s : Bits) → number_of_bits s ≡ 0 → s ≡ zeros (length s)
unfolding number_of_bits
all_zeros [] e = refl
all_zeros (true ∷ s) e = absurd (omega (arith, pow_pos (length s)))
all_zeros (false ∷ s) e = ap (λ (r : Bits). false ∷ r) (all_zeros s (omega arith))

-- ---- cells

-- the bits are those of n values of b bits
pub record Cut (b n : ℕ) (s : Bits) : Type 0 where
  pub values : List ℕ
  pub count : length values ≡ n
  pub small : All (λ v. v < 2 ^ b) values
  pub is : s ≡ cell_bits b values

pub cut : (b n : ℕ) (s : Bits) → length s ≡ n * b → Cut b n s
cut b zero [] l = record { values = []; count = refl; small = tt; is = refl }
cut b zero (x ∷ s) l = absurd (omega arith)
cut b (suc n) s l =
    let z = suc-mul n b in
    let k : length (take b s) ≡ b = length-take-le b s (omega arith) in
    let r = cut b n (drop b s) (length-drop b s ∙ omega arith) in
    record {
      values = number_of_bits (take b s) ∷ r.values;
      count = ap suc r.count;
      small = (rw k at (number_lt (take b s)), r.small);
      is = sym (take-append-drop b s) ∙ ap₂ (λ (x y : Bits). x ++ y) (sym (rw k at (bits_number (take b s)))) r.is;
    }

-- behind i cells
pub cells_behind : (b : ℕ) (vs : List ℕ) (u : Bits) (i : ℕ) → i ≤ length vs → drop (i * b) (cell_bits b vs ++ u) ≡ cell_bits b (drop i vs) ++ u
cells_behind b vs u zero l = let z : 0 * b ≡ 0 = omega arith in rw z
cells_behind b [] u (suc i) l = absurd (omega arith)
cells_behind b (v ∷ vs) u (suc i) l =
    let z : suc i * b ≡ b + i * b = suc-mul i b ∙ omega arith in
    ap (λ (n : ℕ). drop n (cell_bits b (v ∷ vs) ++ u)) z ∙ sym (drop-drop (i * b) b (cell_bits b (v ∷ vs) ++ u))
    ∙ ap (drop (i * b)) (ap (drop b) (append_assoc (bits_of_number b v) (cell_bits b vs) u) ∙ drop_at (bits_of_number b v) (cell_bits b vs ++ u) b (length_bits b v))
    ∙ cells_behind b vs u i (omega arith)
