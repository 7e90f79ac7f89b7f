-- The judge's ways out: bytes with a broken start, of another length, or with a filling that is not zero were written from no values;
-- all others were, and their values are read.
use mathlib.Core.Path.{◌≡◌, sym, ap, ap₂, ◌∙◌}
use Prim.Native.Nat.{ℕ, ◌+◌, ◌*◌, ◌/◌}
use native.Mathlib.Omega.{arith}
use mathlib.Core.Option.{none}
use mathlib.Core.List.{List, ◌∷◌, ◌++◌}
use lib.ListN.{length, take, drop, length-drop, take-append-drop}
use lib.Seq.{length-take-le, take_all, drop_at, drop-drop}
use lib.Dec.{T, leb}
use Rattle.bits.specs.Lists.{All}
use Rattle.bits.specs.Bits.{Bits, number_of_bits, bits_of_number, zeros, pad}
use Rattle.bits.specs.Bytes.{Byte, bits_of}
use Rattle.bits.specs.Codec.{field_dec, value_of}
use Rattle.bits.specs.CodecLaws.{pick_got}
use Rattle.bits.specs.BlockBytes.{value_none}
use Rattle.bits.specs.Reads.{found, Reads}
use Rattle.bits.proofs.Laws.Reads.{length_rest}
use Rattle.format.specs.declared.Image.{Image}
use Rattle.put_bits.proofs.Bytes.{number_zeros}
use Rattle.quality_parts.specs.Parts.{values_right}
use Rattle.quality_parts.proofs.PartsLaws.{values_small}
use Rattle.quality.specs.Payload.{values, quality_block}
use Rattle.quality_cells.specs.declared.Grid.{Grid}
use Rattle.quality_cells.specs.Grid.{Started, NoStart}
use Rattle.quality_cells.proofs.Laws.Written.{cell_bits, cells_long, payload_is, cells_right}
use Rattle.quality_values.specs.Values.{RightPayload}
use Rattle.quality_values.proofs.Laws.Cells.{all_zeros, Cut, cut}
use Rattle.quality_values.proofs.Laws.Valued.{whole, behind_three, same_start, started_too, valued, decoded}

-- ---- no values

none_written : (image : Image) (s : List ℕ) → ((vs : List ℕ) → T (values_right image vs) → bits_of s ≡ (quality_block image).enc vs → ⊥)
    → value_of ((quality_block image).dec (bits_of s)) ≡ none
none_written image s f = value_none ((quality_block image).dec (bits_of s)) λ vs r p. let (t, e) = decoded image s vs r p in f vs t e

pub broken_start : (image : Image) {s : List ℕ} → NoStart s → All Byte s → value_of ((quality_block image).dec (bits_of s)) ≡ none
broken_start image {s} h a = none_written image s λ vs t e. h.is image vs t (same_start image vs s a t e)

module _ {image : Image} {s : List ℕ} {g : Grid} (h : Started image s g) where
  pub other_size : All Byte s → (length s ≡ 3 + (g.cells * g.bits + 7) / 8 → ⊥) → value_of ((quality_block image).dec (bits_of s)) ≡ none
  other_size a f = none_written image s λ vs t e. f (valued h a vs t e).size

  -- ---- the filling is n bits and has the number v

  module _ (e n : ℕ) {v q : ℕ} (l : length s ≡ 3 + (g.cells * g.bits + 7) / 8) (k : 24 + g.cells * g.bits + n ≡ 8 * length s)
      (r : Reads (field_dec e n) s (24 + g.cells * g.bits) (found v q)) where
    abbrev rest : Bits
    rest = drop 24 (bits_of s)

    abbrev filling : Bits
    filling = drop (g.cells * g.bits) rest

    filling_at : filling ≡ drop (24 + g.cells * g.bits) (bits_of s)
    filling_at = drop-drop (g.cells * g.bits) 24 (bits_of s)

    filling_long : length filling ≡ n
    filling_long = ap length filling_at ∙ length_rest s (24 + g.cells * g.bits) ∙ omega arith

    filling_number : number_of_bits filling ≡ v
    filling_number =
        ap number_of_bits (sym (take_all n filling (omega (arith, filling_long))) ∙ ap (take n) filling_at)
        ∙ (pick_got (leb n (length (drop (24 + g.cells * g.bits) (bits_of s)))) _ _ e _ r.is).1

    filling_few : n ≡ pad (24 + g.cells * g.bits)
    filling_few = omega arith

    pub other_filling : All Byte s → (v ≡ 0 → ⊥) → value_of ((quality_block image).dec (bits_of s)) ≡ none
    other_filling a f =
        none_written image s λ vs t z.
        let W = valued h a vs t z in
        let m : length (cell_bits g.bits (drop 3 vs)) ≡ g.cells * g.bits =
        cells_long g.bits (drop 3 vs) ∙ ap (λ (j : ℕ). j * g.bits) (length-drop 3 vs ∙ omega (arith, W.long)) in
        let y : filling ≡ zeros (pad (24 + g.cells * g.bits)) = ap (drop (g.cells * g.bits)) W.bits ∙ drop_at (cell_bits g.bits (drop 3 vs)) _ (g.cells * g.bits) m in
        f (sym filling_number ∙ ap number_of_bits y ∙ number_zeros (pad (24 + g.cells * g.bits)))

    -- ---- the values

    cell_values : Cut g.bits g.cells (take (g.cells * g.bits) rest)
    cell_values = cut g.bits g.cells (take (g.cells * g.bits) rest) (length-take-le (g.cells * g.bits) rest (omega (arith, length_rest s 24)))

    abbrev those : List ℕ
    those = h.width ∷ h.height ∷ g.bits ∷ cell_values.values

    those_start : Started image those g
    those_start = started_too h those (sym (ap (take 3) h.is))

    those_right : T (values_right image those)
    those_right = cells_right those_start cell_values.count (values_small g.bits cell_values.values cell_values.small)

    rest_is : v ≡ 0 → rest ≡ cell_bits g.bits cell_values.values ++ zeros (pad (24 + length cell_values.values * g.bits))
    rest_is z =
        let y : filling ≡ zeros n = all_zeros filling (filling_number ∙ z) ∙ ap zeros filling_long in
        sym (take-append-drop (g.cells * g.bits) rest) ∙ rw cell_values.count (ap₂ (λ (a b : Bits). a ++ b) cell_values.is (y ∙ ap zeros filling_few))

    three : (x y z : ℕ) (t : List ℕ) → s ≡ x ∷ y ∷ z ∷ t → bits_of s ≡ bits_of_number 8 x ++ (bits_of_number 8 y ++ (bits_of_number 8 z ++ rest))
    unfolding bits_of
    three x y z t e =
        ap bits_of e ∙ ap (λ (u : Bits). bits_of_number 8 x ++ (bits_of_number 8 y ++ (bits_of_number 8 z ++ u))) (sym (ap (λ (u : List ℕ). drop 24 (bits_of u)) e ∙ behind_three x y z (bits_of t)))

    pub payload_right : v ≡ 0 → RightPayload image s g
    unfolding quality_block values
    payload_right z =
        let w : bits_of s ≡ (quality_block image).enc those =
        three h.width h.height g.bits h.rest h.is ∙ ap (λ (u : Bits). bits_of_number 8 h.width ++ (bits_of_number 8 h.height ++ (bits_of_number 8 g.bits ++ u))) (rest_is z)
        ∙ sym (payload_is those_start ∙ whole g.bits those) in
        record { values = those; reads = ap (quality_block image).dec w ∙ (quality_block image).there those those_right; start = h }
