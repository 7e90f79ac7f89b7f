-- The laws of Bits: bits to number and back, over every width.
use Rattle.std.specs.Prelude.{◌≡◌, refl, ℕ, zero, suc, ◌+◌, ◌*◌, ◌/◌, ◌%◌, ◌^◌, ◌<◌, Bool, true, false, [], ◌∷◌, ◌++◌, length}
use Rattle.std.proofs.Common.{sym, ap, ap₂, ◌∙◌, mod-eq_of_lt, pow-suc, one-add, arith, length-append, shr-shr}
use Rattle.std.proofs.Math.Nat.{mod-one}
use Rattle.std.proofs.lemmas.List.{length-replicate}
use Rattle.std.proofs.Math.Pow.{high, low, field, mod-mod-pow}
use Rattle.std.proofs.lemmas.Nat.{mod-pow-add}
use Rattle.bits.specs.Bits.{Bits, val, bit, number_of_bits, bits_of_number, pad, filled}

pub length_bits : (w n : ℕ) → length (bits_of_number w n) ≡ w
unfolding bits_of_number
length_bits zero n = refl
length_bits (suc w) n = ap suc (length_bits w n)

pub val_bit : (n : ℕ) → n < 2 → val (bit n) ≡ n
val_bit zero h = refl
val_bit (suc zero) h = refl
val_bit (suc (suc n)) h = omega arith

pub number_lt : (bs : Bits) → number_of_bits bs < 2 ^ length bs
unfolding number_of_bits
number_lt [] = omega arith
number_lt (true ∷ bs) = omega (arith, number_lt bs, pow-suc 2 (length bs))
number_lt (false ∷ bs) = omega (arith, number_lt bs, pow-suc 2 (length bs))

-- the lowest n bits go by the number modulo 2 ^ n
pub bits_mod : (n x y : ℕ) → x % 2 ^ n ≡ y % 2 ^ n → bits_of_number n x ≡ bits_of_number n y
unfolding bits_of_number
bits_mod zero x y e = refl
bits_mod (suc n) x y e =
    let e1 : x % 2 ^ (1 + n) ≡ y % 2 ^ (1 + n) = rw (one-add n) e in
    let h : x / 2 ^ n % 2 ≡ y / 2 ^ n % 2 = sym (field x 1 n) ∙ ap (λ (v : ℕ). v / 2 ^ n) e1 ∙ field y 1 n in
    let t : x % 2 ^ n ≡ y % 2 ^ n = sym (mod-mod-pow x 1 n) ∙ ap (λ (v : ℕ). v % 2 ^ n) e1 ∙ mod-mod-pow y 1 n in
    ap₂ (λ (a : ℕ) (l : Bits). bit a ∷ l) h (bits_mod n x y t)

pub number_mod : (w n : ℕ) → number_of_bits (bits_of_number w n) ≡ n % 2 ^ w
unfolding number_of_bits bits_of_number
number_mod zero n = sym (mod-one n)
number_mod (suc w) n = simp (length_bits w n, number_mod w n, val_bit (n / 2 ^ w % 2) (omega arith), sym (one-add w)) (sym (mod-pow-add n 1 w))

pub number_bits : (w n : ℕ) → n < 2 ^ w → number_of_bits (bits_of_number w n) ≡ n
number_bits w n h = number_mod w n ∙ mod-eq_of_lt h

-- a number's lowest a + b bits: a of them, then the lowest b
pub bits_split : (a b n : ℕ) → bits_of_number (a + b) n ≡ bits_of_number a (n / 2 ^ b) ++ bits_of_number b n
unfolding bits_of_number
bits_split zero b n = let e : 0 + b ≡ b = omega arith in rw e
bits_split (suc a) b n =
    let e : suc a + b ≡ suc (a + b) = omega arith in
    let z : a + b ≡ b + a = omega arith in
    ap (λ (w : ℕ). bits_of_number w n) e
    ∙ ap₂ (λ (x : ℕ) (y : Bits). bit (x % 2) ∷ y) (ap (λ (w : ℕ). n / 2 ^ w) z ∙ sym (shr-shr n b a)) (bits_split a b n)

pub bits_number : (bs : Bits) → bits_of_number (length bs) (number_of_bits bs) ≡ bs
unfolding number_of_bits bits_of_number
bits_number [] = refl
bits_number (b ∷ bs) =
    let l : number_of_bits bs < 2 ^ length bs = number_lt bs in
    ap₂ (λ (x : ℕ) (r : Bits). bit (x % 2) ∷ r) (high (val b) (length bs) l)
    (bits_mod (length bs) (val b * 2 ^ length bs + number_of_bits bs) (number_of_bits bs) (low (val b) (length bs) l ∙ sym (mod-eq_of_lt l)) ∙ bits_number bs)
    ∙ ap (λ (x : Bool). x ∷ bs) (back b)
  where
    back : (b : Bool) → bit (val b % 2) ≡ b
    back true = refl
    back false = refl

-- ---- filling up to whole bytes

pub pad_lt : (n : ℕ) → pad n < 8
pad_lt n = omega arith

pub pad_is : (n k : ℕ) → k < 8 → (n + k) % 8 ≡ 0 → k ≡ pad n
pad_is n k h e = omega arith

pub filled_long : (s : Bits) → length (filled s) ≡ 8 * ((length s + 7) / 8)
filled_long s = simp (length-append, length-replicate) (omega arith)

pub filled_bytes : (s : Bits) → length (filled s) % 8 ≡ 0
filled_bytes s = omega (arith, filled_long s)
