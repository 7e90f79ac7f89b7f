-- A block's value in bytes: what is written is read, and what is read was written. And the value alone, where it was got or not; and
-- bytes that are written one by one.
use Rattle.std.specs.Prelude.{◌≡◌, refl, ℕ, ◌/◌, List, [], ◌∷◌, ◌++◌, length}
use Rattle.std.proofs.Common.{ap, ◌∙◌, arith}
use Rattle.std.proofs.Math.Option.{none, some}
use Rattle.bits.specs.Lists.{All}
use Rattle.bits.specs.Bits.{Bits, bits_of_number}
use Rattle.bits.specs.Bytes.{Byte, bits_of, in_bytes}
use Rattle.bits.specs.BytesLaws.{length_bits_of, bits_in, in_bits, bytes_are}
use Rattle.bits.specs.Codec.{Read, got, refused, value_of}
use Rattle.bits.specs.CodecLaws.{enc_all, field}
use Rattle.bits.specs.Block.{Block}

pub value_some : {S A : Type 0} (o : Read S A) (a : A) → value_of o ≡ some a → (r : List S) × (o ≡ got a r)
value_some (got b r) a h = let e : b ≡ a = cc in (r, ap (λ x. got x r) e)
value_some (refused e l) a h = let z : ◌≡◌ {A = ℕ} 0 1 = cc in absurd (omega arith)

pub value_none : {S A : Type 0} (o : Read S A) → ((a : A) (r : List S) → o ≡ got a r → ⊥) → value_of o ≡ none
value_none (got a r) f = absurd (f a r refl)
value_none (refused e l) f = refl

-- bytes, a field each
pub each_byte : (e : ℕ) (xs : List ℕ) → enc_all (field e 8) xs ≡ bits_of xs
unfolding bits_of
each_byte e [] = refl
each_byte e (x ∷ xs) = ap (λ (s : Bits). bits_of_number 8 x ++ s) (each_byte e xs)

module _ {A : Type 0} (b : Block A) where
  pub value_bytes_lem : (a : A) → All Byte (in_bytes (b.enc a))
  value_bytes_lem a = let s : Bits = b.enc a in bytes_are (length s / 8) s (omega (arith, b.bytes a))

  pub value_there : (a : A) → b.Fits a → b.dec (bits_of (in_bytes (b.enc a))) ≡ got a []
  value_there a h = rw (bits_in (b.enc a) (b.bytes a)) (b.there a h)

  pub value_back : (v : List ℕ) (a : A) (r : Bits) → All Byte v → b.dec (bits_of v) ≡ got a r → b.Fits a × (v ≡ in_bytes (b.enc a))
  value_back v a r h p =
      let (f, e) = b.back (bits_of v) a (omega (arith, length_bits_of v)) (p ∙ ap (got a) (b.all (bits_of v) a r p)) in
      (f, rw (← e) (rw (in_bits v h)))
