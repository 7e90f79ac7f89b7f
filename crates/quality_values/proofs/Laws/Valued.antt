-- What is known of the values that a payload was written from: its first three bytes are theirs, the bits behind are those of their
-- cells and then zero, and its length follows from their number.
use mathlib.Core.Path.{◌≡◌, sym, ap, ◌∙◌}
use Prim.Native.Nat.{ℕ, ◌+◌, ◌*◌, ◌/◌, ◌^◌, ◌<◌}
use native.Mathlib.Omega.{arith}
use mathlib.Core.List.{List, [], ◌∷◌, ◌++◌, append_assoc}
use lib.ListN.{length, take, drop, get_or, length-append, length-drop, take-append-drop}
use lib.Seq.{drop_at}
use lib.Dec.{T}
use Rattle.bits.specs.ChoiceLaws.{within_high}
use Rattle.bits.specs.Lists.{All}
use Rattle.bits.specs.ListsLaws.{all_true_lem}
use Rattle.bits.specs.Bits.{Bits, bits_of_number, zeros, pad, filled}
use Rattle.bits.specs.BitsLaws.{length_bits, filled_long}
use Rattle.bits.specs.Bytes.{Byte, bits_of}
use Rattle.bits.specs.BytesLaws.{length_bits_of}
use Rattle.bits.specs.Codec.{got}
use Rattle.format.specs.declared.Image.{Image}
use Rattle.quality_parts.specs.Parts.{values_right}
use Rattle.quality_parts.proofs.PartsLaws.{tests, small_values}
use Rattle.quality.specs.Payload.{values, quality_block}
use Rattle.quality_cells.specs.declared.Grid.{Grid}
use Rattle.quality_cells.specs.Grid.{Started}
use Rattle.quality_cells.proofs.Laws.Written.{cell_bits, payload_bits, payload_long, written, payload_is, right_cells}
use Rattle.quality_values.specs.Values.{RightPayload}
use Rattle.quality_values.proofs.Laws.Cells.{same_number}

-- ---- the first three bytes

-- the payload's bits, the filling last
pub whole : (b : ℕ) (vs : List ℕ) → filled (payload_bits b vs)
    ≡ bits_of_number 8 (get_or vs 0 0) ++ (bits_of_number 8 (get_or vs 1 0) ++ (bits_of_number 8 (get_or vs 2 0) ++ (cell_bits b (drop 3 vs) ++ zeros (pad (24 + length (drop 3 vs) * b)))))
whole b vs = rw (payload_long b vs) (simp append_assoc)

pub behind_three : (x y z : ℕ) (r : Bits) → drop 24 (bits_of_number 8 x ++ (bits_of_number 8 y ++ (bits_of_number 8 z ++ r))) ≡ r
behind_three x y z r =
    let a : Bits = bits_of_number 8 x in
    let b : Bits = bits_of_number 8 y in
    let d : Bits = bits_of_number 8 z in
    let e : a ++ (b ++ (d ++ r)) ≡ (a ++ (b ++ d)) ++ r = simp append_assoc in
    let l : length (a ++ (b ++ d)) ≡ 24 = simp length-append (omega (arith, length_bits 8 x, length_bits 8 y, length_bits 8 z)) in
    ap (drop 24) e ∙ drop_at (a ++ (b ++ d)) r 24 l

too_short : (image : Image) (w h b : ℕ) (vs s : List ℕ) → length s < 3 → bits_of s ≡ (quality_block image).enc (w ∷ h ∷ b ∷ vs) → ⊥
too_short image w h b vs s l e =
    let ws : List ℕ = w ∷ h ∷ b ∷ vs in
    omega (arith, length_bits_of s, ap length (e ∙ written image w h b vs), filled_long (payload_bits b ws), payload_long b ws)

-- bytes that were written from values start as these do
pub same_start : (image : Image) (vs s : List ℕ) → All Byte s → T (values_right image vs) → bits_of s ≡ (quality_block image).enc vs → take 3 vs ≡ take 3 s
unfolding bits_of
same_start image [] s a t e = elim t [ ]
same_start image (w ∷ []) s a t e = elim t [ ]
same_start image (w ∷ (h ∷ [])) s a t e = elim t [ ]
same_start image (w ∷ h ∷ b ∷ vs) (x ∷ y ∷ z ∷ s) a t e =
    let (tw, (th, (tb, _))) = all_true_lem (tests image w h b vs) t in
    let k = e ∙ written image w h b vs ∙ whole b (w ∷ h ∷ b ∷ vs) in
    let (ex, k₁) = same_number 8 x w _ _ a.0 (omega (arith, within_high 1 255 w tw)) k in
    let (ey, k₂) = same_number 8 y h _ _ a.1.0 (omega (arith, within_high 1 255 h th)) k₁ in
    let (ez, _) = same_number 8 z b _ _ a.1.1.0 (omega (arith, within_high 1 8 b tb)) k₂ in
    cc
same_start image (w ∷ h ∷ b ∷ vs) [] a t e = absurd (too_short image w h b vs [] (omega arith) e)
same_start image (w ∷ h ∷ b ∷ vs) (x ∷ []) a t e = absurd (too_short image w h b vs (x ∷ []) (omega arith) e)
same_start image (w ∷ h ∷ b ∷ vs) (x ∷ y ∷ []) a t e = absurd (too_short image w h b vs (x ∷ y ∷ []) (omega arith) e)

-- ---- the values

pub record Valued (s : List ℕ) (g : Grid) (vs : List ℕ) : Type 0 where
  pub first : take 3 vs ≡ take 3 s
  pub long : length vs ≡ 3 + g.cells
  pub small : All (λ v. v < 2 ^ g.bits) (drop 3 vs)
  pub bits : drop 24 (bits_of s) ≡ cell_bits g.bits (drop 3 vs) ++ zeros (pad (24 + g.cells * g.bits))
  pub size : length s ≡ 3 + (g.cells * g.bits + 7) / 8

-- values that start as bytes with a right start do
pub started_too : {image : Image} {s : List ℕ} {g : Grid} → Started image s g → (vs : List ℕ) → take 3 vs ≡ take 3 s → Started image vs g
started_too h vs e =
    record {
      width = h.width;
      height = h.height;
      rest = drop 3 vs;
      is = sym (take-append-drop 3 vs) ∙ ap (λ (l : List ℕ). l ++ drop 3 vs) (e ∙ ap (take 3) h.is);
      wide = h.wide;
      high = h.high;
      narrow = h.narrow;
      cells = h.cells;
      few = h.few;
    }

pub valued : {image : Image} {s : List ℕ} {g : Grid} → Started image s g → All Byte s → (vs : List ℕ) → T (values_right image vs) → bits_of s ≡ (quality_block image).enc vs → Valued s g vs
valued {image} {s} {g} h a vs t e =
    let f = same_start image vs s a t e in
    let st = started_too h vs f in
    let (n, m) = right_cells st t in
    let z : bits_of s ≡ filled (payload_bits g.bits vs) = e ∙ payload_is st in
    let k : length (payload_bits g.bits vs) ≡ 24 + g.cells * g.bits = rw n at (payload_long g.bits vs) in
    record {
      first = f;
      long = omega (arith, ap length st.is, length-drop 3 vs, n);
      small = small_values g.bits (drop 3 vs) m;
      bits = ap (drop 24) (z ∙ whole g.bits vs) ∙ behind_three (get_or vs 0 0) (get_or vs 1 0) (get_or vs 2 0) _ ∙ rw n;
      size = omega (arith, length_bits_of s, ap length z, filled_long (payload_bits g.bits vs), k);
    }

-- what is read was written
pub decoded : (image : Image) (s vs : List ℕ) (r : Bits) → (quality_block image).dec (bits_of s) ≡ got vs r → T (values_right image vs) × (bits_of s ≡ (quality_block image).enc vs)
unfolding quality_block values
decoded image s vs r p =
    let z : r ≡ [] = (quality_block image).all (bits_of s) vs r p in
    (quality_block image).back (bits_of s) vs (omega (arith, length_bits_of s)) (p ∙ ap (got vs) z)

pub right_valued : {image : Image} {s : List ℕ} {g : Grid} (R : RightPayload image s g) → All Byte s → Valued s g R.values
right_valued {image} {s} R a = let (t, e) = decoded image s R.values [] R.reads in valued R.start a R.values t e
