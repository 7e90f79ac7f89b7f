-- Payloads of pores as bytes: what is written is read, what is read was written, and pores have one payload.
use Rattle.std.specs.Prelude.{◌≡◌, refl, ℕ, List, []}
use Rattle.std.proofs.Common.{sym, ap, ◌∙◌, arith}
use Rattle.std.proofs.Math.Option.{some}
use Rattle.bits.specs.Lists.{All}
use Rattle.bits.specs.Bits.{Bits}
use Rattle.bits.specs.Bytes.{Byte, bits_of, in_bytes}
use Rattle.bits.specs.BytesLaws.{bits_in, length_bits_of}
use Rattle.bits.specs.Codec.{got, value_of}
use Rattle.bits.specs.BlockBytes.{value_some, value_bytes_lem, value_back}
use Rattle.pores_parts.specs.Parts.{Pores, FitsPores}
use Rattle.pores.specs.Payload.{pores_block, pores_in, payload_of}

-- how many lines there are is not written
enc_same : (n m : ℕ) (p : Pores) → (pores_block n).enc p ≡ (pores_block m).enc p
unfolding pores_block
enc_same n m p = refl

fits_to : (n : ℕ) (p : Pores) → FitsPores n p → (pores_block n).Fits p
unfolding pores_block
fits_to n p h = h

to_fits : (n : ℕ) (p : Pores) → (pores_block n).Fits p → FitsPores n p
unfolding pores_block
to_fits n p h = h

pub payload_bytes : (p : Pores) → All Byte (payload_of p)
payload_bytes p = value_bytes_lem (pores_block 0) p

-- the bits of the payload are those of the format, for whatever number of lines
pub payload_bits_lem : (n : ℕ) (p : Pores) → bits_of (payload_of p) ≡ (pores_block n).enc p
payload_bits_lem n p = bits_in ((pores_block 0).enc p) ((pores_block 0).bytes p) ∙ enc_same 0 n p

pub payload_read : (n : ℕ) (p : Pores) → FitsPores n p → pores_in n (payload_of p) ≡ some p
payload_read n p h = ap (λ (s : Bits). value_of ((pores_block n).dec s)) (payload_bits_lem n p) ∙ ap value_of ((pores_block n).there p (fits_to n p h))

-- what is read, as the format has it
pub pores_got : {X : Type 0} (n : ℕ) (bytes : List ℕ) (p : Pores) → pores_in n bytes ≡ some p → ((pores_block n).dec (bits_of bytes) ≡ got p [] → X) → X
pores_got n bytes p h k =
    let (r, e) = value_some ((pores_block n).dec (bits_of bytes)) p h in
    k (e ∙ ap (got p) ((pores_block n).all (bits_of bytes) p r e))

pub pores_fit : (n : ℕ) (bytes : List ℕ) (p : Pores) → pores_in n bytes ≡ some p → FitsPores n p
pores_fit n bytes p h = pores_got n bytes p h λ e. to_fits n p ((pores_block n).back (bits_of bytes) p (omega (arith, length_bits_of bytes)) e).0

pub payload_written : (n : ℕ) (bytes : List ℕ) (p : Pores) → All Byte bytes → pores_in n bytes ≡ some p → FitsPores n p × (bytes ≡ payload_of p)
payload_written n bytes p b h =
    pores_got n bytes p h λ e.
    let (f, g) = value_back (pores_block n) bytes p [] b e in
    (to_fits n p f, g ∙ ap in_bytes (enc_same n 0 p))

-- "one payload for given distances"
pub only_payload : (n m : ℕ) (a b : List ℕ) (p : Pores) → All Byte a → All Byte b → pores_in n a ≡ some p → pores_in m b ≡ some p → a ≡ b
only_payload n m a b p u v e f = (payload_written n a p u e).1 ∙ sym (payload_written m b p v f).1
