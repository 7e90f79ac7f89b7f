-- A payload is as long as its elements say, and what a segment's payload says can be written in 32 bits each.
use mathlib.Core.Path.{◌≡◌, ◌∙◌}
use Prim.Native.Nat.{ℕ, ◌+◌, ◌*◌, ◌/◌, ◌^◌, ◌≤◌, ◌<◌}
use native.Mathlib.Nat.{add-mul, mul-le-mul_left, le-mul_of_pos_right, pow-le-pow_right}
use native.Mathlib.Omega.{arith}
use mathlib.Core.List.{List, [], ◌∷◌, ◌++◌}
use lib.ListN.{length, length-append}
use Rattle.bits.specs.Lists.{All, total}
use Rattle.bits.specs.Bits.{Bits, bits_of_number, filled}
use Rattle.bits.specs.BitsLaws.{length_bits, filled_long}
use Rattle.bits.specs.BytesLaws.{length_in}
use Rattle.bits.specs.CodecLaws.{enc_all}
use Rattle.bits.specs.ListsLaws.{all_both}
use Rattle.pores_elements.proofs.BeforeLaws.{row_enc}
use Rattle.pores_elements.specs.Element.{most, elements_of}
use Rattle.pores_elements.proofs.ElementLaws.{FitsDistance, distance, run_length, elements_fit, distance_elements_lem}
use Rattle.pores_parts.specs.Parts.{Pores, FitsPores}
use Rattle.pores.specs.Payload.{pores_block, payload_of}
use Rattle.pores_parts.specs.Lines.{line}
use Rattle.pores.specs.Size.{distance_elements, line_elements, element_count, payload_length}

-- ---- lengths

distances_long : (e : ℕ) (ds : List ℕ) → length (enc_all (distance e) ds) ≡ total (distance_elements e) ds * e
distances_long e [] = omega arith
distances_long e (d ∷ ds) =
    simp length-append (omega (arith, run_length e (elements_of e d).0 (elements_of e d).1, distances_long e ds, add-mul (distance_elements e d) (total (distance_elements e) ds) e))

line_long_lem : (e : ℕ) (ds : List ℕ) → length ((line e).enc ds) ≡ line_elements e ds * e
line_long_lem e ds =
    let z : length (bits_of_number e 0) ≡ e = length_bits e 0 in
    length-append (bits_of_number e 0) (enc_all (distance e) ds) ∙ omega (arith, z, distances_long e ds)

lines_long : (e : ℕ) (ls : List (List ℕ)) → length (row_enc (line e) ls) ≡ total (line_elements e) ls * e
lines_long e [] = omega arith
lines_long e (ds ∷ ls) =
    length-append ((line e).enc ds) (row_enc (line e) ls) ∙ omega (arith, line_long_lem e ds, lines_long e ls, add-mul (line_elements e ds) (total (line_elements e) ls) e)

block_long : (n : ℕ) (p : Pores) → length ((pores_block n).enc p) ≡ 24 + 8 * ((element_count p * p.e + 7) / 8)
unfolding pores_block
block_long n p =
    let s : Bits = row_enc (line p.e) p.lines in
    let h : length (bits_of_number 16 p.resolution ++ bits_of_number 8 p.e) ≡ 24 = simp (length-append, length_bits) in
    length-append (bits_of_number 16 p.resolution ++ bits_of_number 8 p.e) (filled s) ∙ omega (arith, filled_long s, lines_long p.e p.lines)

pub payload_long : (p : Pores) → length (payload_of p) ≡ payload_length p
payload_long p = length_in ((pores_block 0).enc p) ∙ omega (arith, block_long 0 p)

-- ---- 32 bits are enough

all_total : {A : Type 0} (f : A → ℕ) (most : ℕ) (xs : List A) → total f xs ≤ most → All (λ x. f x ≤ most) xs
all_total f most [] h = tt
all_total f most (x ∷ xs) h = (omega arith, all_total f most xs (omega arith))

pub length_total : (e : ℕ) (ds : List ℕ) → length ds ≤ total (distance_elements e) ds
length_total e [] = omega arith
length_total e (d ∷ ds) = omega (arith, length_total e ds)

-- an element passes at most 254
distance_le : (e d : ℕ) → FitsDistance e d → e ≤ 8 → d ≤ 254 * distance_elements e d
distance_le e d h l =
    let p : 2 ^ e ≤ 2 ^ 8 = pow-le-pow_right {n = 2} (omega arith) l in
    let f = elements_fit e d h in
    let m : most e ≤ 254 = omega arith in
    omega (arith, distance_elements_lem e d h, f.last, mul-le-mul_left (elements_of e d).0 m)

-- so each number that is given has 32 bits
pub record SmallNumbers (p : Pores) : Type 0 where
  pub resolution : p.resolution < 2 ^ 32
  pub e : p.e < 2 ^ 32
  pub lines : All (λ ds. (length ds < 2 ^ 32) × All (λ d. d < 2 ^ 32) ds) p.lines

pub numbers_small : (n : ℕ) (p : Pores) → FitsPores n p → length (payload_of p) < 2 ^ 16 → SmallNumbers p
numbers_small n p h l =
    let c : element_count p ≤ element_count p * p.e = le-mul_of_pos_right {m = p.e} (element_count p) (omega (arith, h.low)) in
    let t : element_count p ≤ 8 * 2 ^ 16 = omega (arith, payload_long p) in
    record {
      resolution = omega (arith, h.resolution);
      e = omega (arith, h.high);
      lines = all_both _ (All (λ d. 1 ≤ d)) _ p.lines
          (λ ds a b. (
            omega (arith, length_total p.e ds),
            all_both _ (λ d. 1 ≤ d) _ ds (λ d x y. omega (arith, distance_le p.e d (record { bits = h.low; some = y }) h.high))
                (all_total (distance_elements p.e) (8 * 2 ^ 16) ds (omega arith)) b,
          ))
          (all_total (line_elements p.e) (8 * 2 ^ 16) p.lines t) h.distances;
    }
