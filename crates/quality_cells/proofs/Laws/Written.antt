-- What is written of right values: the bits of their payload, of which every cell has as many, and when values with a right start are
-- right. The code that puts a payload and the code that reads one both stand on these.
use mathlib.Core.Path.{◌≡◌, refl, sym, ap, ◌∙◌}
use Prim.Native.Nat.{ℕ, ◌+◌, ◌*◌, ◌^◌}
use native.Mathlib.Nat.{suc-mul}
use native.Mathlib.Omega.{arith}
use mathlib.Core.Bool.{Bool}
use mathlib.Core.List.{List, [], ◌∷◌, ◌++◌}
use lib.ListN.{length, drop, get_or, length-append}
use lib.Dec.{T, ltb, eqb→eq}
use mir.Facts.{yes_eqb}
use Rattle.bits.specs.Lists.{every}
use Rattle.bits.specs.ListsLaws.{all_true_lem, true_all}
use Rattle.bits.specs.Bits.{Bits, bits_of_number, filled}
use Rattle.bits.specs.BitsLaws.{length_bits}
use Rattle.bits.specs.CodecLaws.{field, enc_all}
use Rattle.format.specs.declared.Image.{Image}
use Rattle.quality_parts.specs.Parts.{cells, values_right}
use Rattle.quality_parts.proofs.PartsLaws.{tests}
use Rattle.quality.specs.Payload.{values, quality_block}
use Rattle.quality_cells.specs.declared.Grid.{Grid}
use Rattle.quality_cells.specs.Grid.{Started}

-- ---- the bits

-- the values of cells, b bits each
abbrev pub cell_bits : ℕ → List ℕ → Bits
cell_bits b [] = []
cell_bits b (v ∷ vs) = bits_of_number b v ++ cell_bits b vs

cells_are : (e b : ℕ) (vs : List ℕ) → enc_all (field e b) vs ≡ cell_bits b vs
cells_are e b [] = refl
cells_are e b (v ∷ vs) = ap (λ (s : Bits). bits_of_number b v ++ s) (cells_are e b vs)

pub cells_long : (b : ℕ) (vs : List ℕ) → length (cell_bits b vs) ≡ length vs * b
cells_long b [] = omega arith
cells_long b (v ∷ vs) = omega (arith, length-append (bits_of_number b v) (cell_bits b vs), length_bits b v, cells_long b vs, suc-mul (length vs) b)

-- the first three, 8 bits each, and the cells
abbrev pub payload_bits : ℕ → List ℕ → Bits
payload_bits b vs = bits_of_number 8 (get_or vs 0 0) ++ (bits_of_number 8 (get_or vs 1 0) ++ (bits_of_number 8 (get_or vs 2 0) ++ cell_bits b (drop 3 vs)))

pub payload_long : (b : ℕ) (vs : List ℕ) → length (payload_bits b vs) ≡ 24 + length (drop 3 vs) * b
payload_long b vs =
    simp length-append
    (omega (arith, length_bits 8 (get_or vs 0 0), length_bits 8 (get_or vs 1 0), length_bits 8 (get_or vs 2 0), cells_long b (drop 3 vs)))

pub written : (image : Image) (w h b : ℕ) (vs : List ℕ) → (quality_block image).enc (w ∷ h ∷ b ∷ vs) ≡ filled (payload_bits b (w ∷ h ∷ b ∷ vs))
unfolding quality_block values
written image w h b vs = rw cells_are

pub payload_is : {image : Image} {vs : List ℕ} {g : Grid} → Started image vs g → (quality_block image).enc vs ≡ filled (payload_bits g.bits vs)
payload_is {image} {vs} {g} h = rw h.is (written image h.width h.height g.bits h.rest)

-- ---- values that start right

-- each fits b bits
abbrev pub all_small : ℕ → List ℕ → Bool
all_small b vs = every (λ v. ltb v (2 ^ b)) vs

module _ {image : Image} {vs : List ℕ} {g : Grid} (h : Started image vs g) where
  pub right_cells : T (values_right image vs) → (length (drop 3 vs) ≡ g.cells) × T (all_small g.bits (drop 3 vs))
  right_cells t =
      let (_, (_, (_, (n, (s, _))))) = all_true_lem (tests image h.width h.height g.bits h.rest) (rw h.is at t) in
      rw h.is (eqb→eq (length h.rest) (cells image h.width h.height) n ∙ sym h.cells, s)

  pub cells_right : length (drop 3 vs) ≡ g.cells → T (all_small g.bits (drop 3 vs)) → T (values_right image vs)
  cells_right n s =
      let e : length h.rest ≡ g.cells = rw h.is at n in
      let t : T (all_small g.bits h.rest) = rw h.is at s in
      rw h.is (true_all (tests image h.width h.height g.bits h.rest) (h.wide, (h.high, (h.narrow, (yes_eqb (e ∙ h.cells), (t, tt))))))
