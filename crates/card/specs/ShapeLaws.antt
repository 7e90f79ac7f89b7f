-- An object whose blocks are written by any formats has the shape of one: with the bytes of these blocks as they are.
use Rattle.std.specs.Prelude.{◌≡◌, ℕ, ◌/◌, List, [], ◌++◌, length}
use Rattle.std.proofs.Common.{sym, ap, ap₂, ◌∙◌}
use Rattle.bits.specs.Bits.{Bits, bits_of_number}
use Rattle.bits.specs.Bytes.{in_bytes}
use Rattle.bits.specs.BytesLaws.{bits_in}
use Rattle.bits.specs.Codec.{got}
use Rattle.bits.specs.CodecLaws.{enc_all}
use Rattle.bits.specs.Block.{Block}
use Rattle.bits.specs.BlockBytes.{value_bytes_lem, each_byte}
use Rattle.outcome.specs.Refusals.{bad_object}
use Rattle.card.specs.Length.{object_length}
use Rattle.card.specs.Object.{any_bytes, Other, other, Card, card_block}

-- ---- the object by its bits

-- the value of 90, by the bits of its blocks
abbrev pub value_bits : (width height : ℕ) → (s i : Bits) → Bits
value_bits width height s i =
    (bits_of_number 16 width ++ bits_of_number 16 height) ++ ((bits_of_number 16 (length s / 8) ++ s) ++ (bits_of_number 16 (length i / 8) ++ i))

-- a data object, by the bits of its tag and its value
abbrev pub tagged_bits : (tag value : Bits) → Bits
tagged_bits tag value = (tag ++ object_length.enc (length value / 8)) ++ value

abbrev pub template_bits : (value : Bits) → List Other → Bits
template_bits value behind = tagged_bits (bits_of_number 8 0x90) value ++ enc_all other behind

abbrev pub object_bits : (value : Bits) → List Other → Bits
object_bits value behind = tagged_bits (bits_of_number 16 0x7F2E) (template_bits value behind)

-- ---- the shape takes it

module _ {A B : Type 0} (s : Block A) (i : A → Block B) where
  abbrev skeleton_bits : Card A B → Bits
  skeleton_bits c = s.enc c.skeleton

  abbrev index_bits : Card A B → Bits
  index_bits c = (i c.skeleton).enc c.index

  -- the same with the bytes of its blocks
  abbrev pub bare : Card A B → Card (List ℕ) (List ℕ)
  bare c = record { width = c.width; height = c.height; skeleton = in_bytes (skeleton_bits c); index = in_bytes (index_bits c); behind = c.behind }

  module _ (c : Card A B) where
    same_skeleton : any_bytes.enc (in_bytes (skeleton_bits c)) ≡ skeleton_bits c
    same_skeleton = each_byte bad_object (in_bytes (skeleton_bits c)) ∙ bits_in (skeleton_bits c) (s.bytes c.skeleton)

    same_index : any_bytes.enc (in_bytes (index_bits c)) ≡ index_bits c
    same_index = each_byte bad_object (in_bytes (index_bits c)) ∙ bits_in (index_bits c) ((i c.skeleton).bytes c.index)

    pub bare_bits : (card_block any_bytes (λ _. any_bytes)).enc (bare c) ≡ (card_block s i).enc c
    bare_bits = ap₂ (λ (x y : Bits). object_bits (value_bits c.width c.height x y) c.behind) same_skeleton same_index

    pub bare_fits : (card_block s i).Fits c → (card_block any_bytes (λ _. any_bytes)).Fits (bare c)
    bare_fits h = rw (same_skeleton, same_index) (
      h.0,
      (
        (h.1.0.0, (h.1.0.1.0, ((h.1.0.1.1.0.0, value_bytes_lem s c.skeleton), (h.1.0.1.1.1.0, value_bytes_lem (i c.skeleton) c.index)))),
        h.1.1,
      ),
    )

    pub shape_takes : (card_block s i).Fits c → (a : Card (List ℕ) (List ℕ)) × ((card_block any_bytes (λ _. any_bytes)).dec ((card_block s i).enc c) ≡ got a [])
    shape_takes h = (bare c, ap (card_block any_bytes (λ _. any_bytes)).dec (sym bare_bits) ∙ (card_block any_bytes (λ _. any_bytes)).there (bare c) (bare_fits h))
