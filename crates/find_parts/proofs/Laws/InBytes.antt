-- Bytes that bits spell: `Spells xs s` says that the bits s are the bytes xs. It goes along with the ways in which the formats
-- write, so that what a format writes is read off byte by byte.
use mathlib.Core.Path.{◌≡◌, refl, sym, ap, ◌∙◌}
use Prim.Native.Nat.{ℕ, ◌*◌, ◌/◌, ◌%◌, ◌^◌, ◌<◌}
use native.Mathlib.Omega.{arith}
use mathlib.Core.Bool.{Bool}
use mathlib.Core.List.{List, [], ◌∷◌, ◌++◌, append-nil, map}
use lib.ListN.{length}
use Rattle.bits.specs.Lists.{All}
use Rattle.bits.specs.ListsLaws.{all_append}
use Rattle.bits.specs.Bits.{Bits, bits_of_number, zeros, pad, filled}
use Rattle.bits.specs.BitsLaws.{bits_mod, bits_split}
use Rattle.bits.specs.Bytes.{Byte, bits_of, in_bytes}
use Rattle.bits.specs.BytesLaws.{bits_append, length_bits_of, in_bits}
use Rattle.bits.specs.Codec.{Codec}
use Rattle.bits.specs.CodecLaws.{enc_all, field}
use Rattle.bits.specs.BlockBytes.{each_byte}
use Rattle.put_bytes.specs.HighFirst.{two, joined}

pub record Spells (xs : List ℕ) (s : Bits) : Type 0 where
  pub bytes : All Byte xs
  pub bits : s ≡ bits_of xs

pub in_spelled : {xs : List ℕ} {s : Bits} → Spells xs s → in_bytes s ≡ xs
in_spelled {xs} h = ap in_bytes h.bits ∙ in_bits xs h.bytes

-- ---- one after the other

infixr 60 ◌⊕◌
pub ◌⊕◌ : {xs ys : List ℕ} {s t : Bits} → Spells xs s → Spells ys t → Spells (xs ++ ys) (s ++ t)
◌⊕◌ {xs} {ys} h k = record { bytes = all_append Byte xs ys h.bytes k.bytes; bits = cc (bits_append xs ys) }

-- whole bytes are not filled up
pub spells_filled : {xs : List ℕ} {s : Bits} → Spells xs s → Spells xs (filled s)
spells_filled {xs} {s} h =
    let l : length s ≡ 8 * length xs = ap length h.bits ∙ length_bits_of xs in
    let z : pad (length s) ≡ 0 = omega arith in
    record { bytes = h.bytes; bits = ap (λ (n : ℕ). s ++ zeros n) z ∙ append-nil s ∙ h.bits }

-- ---- numbers

pub spells_byte : {n : ℕ} → n < 2 ^ 8 → Spells (n ∷ []) (bits_of_number 8 n)
unfolding bits_of
spells_byte {n} h = record { bytes = (h, tt); bits = sym (append-nil (bits_of_number 8 n)) }

pub bits_two : (n : ℕ) → bits_of (two n) ≡ bits_of_number 16 n
unfolding bits_of
bits_two n =
    ap (λ (s : Bits). bits_of_number 8 (n / 256) ++ s) (append-nil (bits_of_number 8 (n % 256)) ∙ bits_mod 8 (n % 256) n (omega arith))
    ∙ sym (bits_split 8 8 n)

pub spells_two : {n : ℕ} → n < 2 ^ 16 → Spells (two n) (bits_of_number 16 n)
spells_two {n} h = record { bytes = (omega arith, (omega arith, tt)); bits = sym (bits_two n) }

-- ---- many

spells_none : Spells [] []
unfolding bits_of
spells_none = record { bytes = tt; bits = refl }

module _ {A : Type 0} (c : Codec Bool A) where
  pub spells_all : (f : A → List ℕ) → ((x : A) → c.Fits x → Spells (f x) (c.enc x)) → (xs : List A) → All c.Fits xs → Spells (joined f xs) (enc_all c xs)
  spells_all f k [] h = spells_none
  spells_all f k (x ∷ xs) h = k x h.0 ⊕ spells_all f k xs h.1

  -- a byte each
  pub spells_map : (f : A → ℕ) → ((x : A) → c.Fits x → Spells (f x ∷ []) (c.enc x)) → (xs : List A) → All c.Fits xs → Spells (map f xs) (enc_all c xs)
  spells_map f k [] h = spells_none
  spells_map f k (x ∷ xs) h = k x h.0 ⊕ spells_map f k xs h.1

pub spells_bytes : (e : ℕ) (xs : List ℕ) → All Byte xs → Spells xs (enc_all (field e 8) xs)
spells_bytes e xs h = record { bytes = h; bits = each_byte e xs }
