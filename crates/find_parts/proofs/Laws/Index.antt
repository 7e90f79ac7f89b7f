-- The index block of an accepted view: it has an index where it is not empty, and its bits are its width's and its lists'.
use mathlib.Core.Path.{◌≡◌, refl, sym, ap, ◌∙◌}
use Prim.Native.Nat.{ℕ, ◌+◌, ◌*◌, ◌/◌, ◌<◌}
use native.Mathlib.Omega.{arith}
use mathlib.Core.Option.{Option, none, some}
use mathlib.Core.List.{List, [], ◌++◌, append_assoc}
use lib.ListN.{length, length-append}
use Rattle.bits.specs.Bits.{Bits, bits_of_number, filled}
use Rattle.bits.specs.BitsLaws.{length_bits, filled_long}
use Rattle.bits.specs.Bytes.{bits_of}
use Rattle.bits.specs.BytesLaws.{length_bits_of}
use Rattle.bits.specs.Codec.{got, field_dec}
use Rattle.bits.specs.CodecLaws.{next_got, enc_along}
use Rattle.bits.proofs.BlockLaws.{ended}
use Rattle.bits.specs.Reads.{found, Reads}
use Rattle.bits.proofs.Laws.Parts.{maybe_more}
use Rattle.outcome.specs.Refusals.{bad_index}
use Rattle.find_parts.proofs.Laws.Blocks.{whole_is}
use Rattle.find_parts.proofs.Laws.Standing.{number_there}
use Rattle.format.specs.Index.{neighbours, Index, up, FitsIndex, index, index_block}

-- a block that is not empty has an index
pub an_index : {P : Type 0} (lines : ℕ) (s : List ℕ) {o : Option Index} {u : Bits} → 0 < length s → (index_block lines).dec (bits_of s) ≡ got o u
    → ((i : Index) → o ≡ some i → P) → P
unfolding index_block
an_index lines s h e f =
    next_got ((ended (index lines) bad_index).dec (bits_of s)) _ (sym (maybe_more (ended (index lines) bad_index) (bits_of s) (omega (arith, length_bits_of s))) ∙ e) λ i r d k.
    f i (cc)

-- its width, then its lists
pub record IndexAt (lines : ℕ) (s : List ℕ) (i : Index) : Type 0 where
  pub fits : FitsIndex lines i
  pub after : Bits
  pub bits : bits_of s ≡ bits_of_number 8 i.width ++ (enc_along (neighbours i.width) up 0 i.lists ++ after)

pub index_at : (lines : ℕ) (s : List ℕ) {i : Index} {u : Bits} → (index_block lines).dec (bits_of s) ≡ got (some i) u → IndexAt lines s i
unfolding index_block index
index_at lines s {i} {u} e =
    let (f, b) = whole_is (index_block lines) s (e ∙ ap (got (some i)) ((index_block lines).all (bits_of s) (some i) u e)) in
    record { fits = f; after = _; bits = b ∙ append_assoc (bits_of_number 8 i.width) (enc_along (neighbours i.width) up 0 i.lists) _ }

pub width_is_lem : (lines : ℕ) (s : List ℕ) {i : Index} {u : Bits} → (index_block lines).dec (bits_of s) ≡ got (some i) u → {w q : ℕ} → Reads (field_dec bad_index 8) s 0 (found w q) → w ≡ i.width
width_is_lem lines s e h = let I = index_at lines s e in number_there bad_index 8 _ (omega (arith, I.fits.high)) I.bits h

-- what is written of none, and of one
pub none_enc : (lines : ℕ) → (index_block lines).enc none ≡ []
unfolding index_block
none_enc lines = refl

pub index_enc : (lines : ℕ) (i : Index) → (index_block lines).enc (some i) ≡ filled (bits_of_number 8 i.width ++ enc_along (neighbours i.width) up 0 i.lists)
unfolding index_block index
index_enc lines i = refl

pub index_long : (lines : ℕ) (i : Index) → length ((index_block lines).enc (some i)) ≡ 8 * ((8 + length (enc_along (neighbours i.width) up 0 i.lists) + 7) / 8)
index_long lines i =
    let lists : Bits = enc_along (neighbours i.width) up 0 i.lists in
    omega (arith, ap length (index_enc lines i), filled_long (bits_of_number 8 i.width ++ lists), length-append (bits_of_number 8 i.width) lists, length_bits 8 i.width)
