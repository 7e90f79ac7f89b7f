-- An object byte by byte is the object of the definitions: each part spells what its format writes.
use mathlib.Core.Path.{◌≡◌, ap, ◌∙◌}
use Prim.Native.Nat.{ℕ, ◌+◌, ◌/◌, ◌^◌, ◌≤◌, ◌<◌}
use native.Mathlib.Omega.{arith}
use mathlib.Core.List.{List, [], ◌∷◌, ◌++◌, append-nil}
use lib.ListN.{length, length-append}
use Rattle.bits.specs.Bits.{Bits, bits_of_number}
use Rattle.bits.specs.Bytes.{in_bytes}
use Rattle.bits.specs.BytesLaws.{length_bits_of}
use Rattle.put_bytes.specs.HighFirst.{two}
use Rattle.format.specs.Line.{skeleton}
use Rattle.format.specs.Index.{index_block}
use Rattle.format.specs.declared.Widths.{Widths}
use Rattle.find_parts.proofs.Laws.InBytes.{Spells, ◌⊕◌, in_spelled, spells_byte, spells_two}
use Rattle.find_parts.proofs.Laws.Written.{spells_sized}
use Rattle.card.specs.LengthParts.{length_parts}
use Rattle.card.specs.LengthLaws.{forms, form_one, form_81, form_82, short_parts, middle_parts, long_parts, short_bits}
use Rattle.card.specs.Length.{object_length}
use Rattle.card.specs.Object.{Other}
use Rattle.card.specs.ShapeLaws.{value_bits, tagged_bits, object_bits}
use Rattle.card.specs.Card.{Content, content, card, object_of}
use Rattle.card.specs.Stored.{length_out, value_out, object90_out, object_out}

-- ---- a length

pub short_out : (n : ℕ) → n < 128 → length_out n ≡ n ∷ []
short_out n h = form_one n _ _ _ h

pub middle_out : (n : ℕ) → 128 ≤ n → n < 256 → length_out n ≡ 0x81 ∷ n ∷ []
middle_out n l h = form_81 n _ _ _ l h

pub long_out : (n : ℕ) → 256 ≤ n → length_out n ≡ 0x82 ∷ two n
long_out n l = form_82 n _ _ _ l

short_spells : (n : ℕ) → n < 128 → Spells (n ∷ []) (length_parts.enc (n, 0))
unfolding bits_of_number
short_spells n h =
    let b : Spells (n ∷ []) (bits_of_number 8 n) = spells_byte (omega arith) in
    record { bytes = b.bytes; bits = ap (λ (k : ℕ). bits_of_number 8 n ++ bits_of_number k 0) (short_bits n h) ∙ append-nil (bits_of_number 8 n) ∙ b.bits }

pub length_spells : (n : ℕ) → n < 2 ^ 16 → Spells (length_out n) (object_length.enc n)
unfolding object_length
length_spells n h =
    forms n
    (λ l. rw (short_out n l, short_parts n l) (short_spells n l))
    (λ l k. rw (middle_out n l k, middle_parts n l k) (spells_byte (omega arith) ⊕ spells_byte k))
    (λ l. rw (long_out n l, long_parts n l) (spells_byte (omega arith) ⊕ spells_two h))

-- a data object whose tag and value are spelled
tagged_spells : {tag value : List ℕ} {t v : Bits} → Spells tag t → Spells value v → length value < 2 ^ 16 → Spells ((tag ++ length_out (length value)) ++ value) (tagged_bits t v)
tagged_spells {value = value} {v = v} a b h =
    let n : length v / 8 ≡ length value = omega (arith, ap length b.bits, length_bits_of value) in
    rw n ((a ⊕ length_spells (length value) h) ⊕ b)

pub inner_long : (value : List ℕ) → length (object90_out value) ≡ 1 + length (length_out (length value)) + length value
inner_long value = length-append (0x90 ∷ length_out (length value)) value ∙ omega arith

-- ---- the value of 90

-- two numbers, and two blocks behind their lengths
pub value_long : (w : Widths) (c : Content) → length (value_out w c) ≡ 8 + length (in_bytes ((skeleton w).enc c.skeleton)) + length (in_bytes ((index_block (length c.skeleton)).enc c.index))
value_long w c = simp length-append (omega arith)

-- its numbers and lengths fit 16 bits

pub record ShortValue (w : Widths) (c : Content) : Type 0 where
  pub width : c.width < 2 ^ 16
  pub height : c.height < 2 ^ 16
  pub skeleton : length ((skeleton w).enc c.skeleton) / 8 < 2 ^ 16
  pub index : length ((index_block (length c.skeleton)).enc c.index) / 8 < 2 ^ 16

module _ (w : Widths) (c : Content) where
  -- its bits
  abbrev pub value_is : Bits
  value_is = value_bits c.width c.height ((skeleton w).enc c.skeleton) ((index_block (length c.skeleton)).enc c.index)

  pub value_spells : ShortValue w c → Spells (value_out w c) value_is
  value_spells h =
      (spells_two h.width ⊕ spells_two h.height) ⊕ (spells_sized (skeleton w) c.skeleton h.skeleton ⊕ spells_sized (index_block (length c.skeleton)) c.index h.index)

  pub object90_spells : ShortValue w c → length (value_out w c) < 2 ^ 16 → Spells (object90_out (value_out w c)) (tagged_bits (bits_of_number 8 0x90) value_is)
  object90_spells h l = tagged_spells {tag = 0x90 ∷ []} (spells_byte (omega arith)) (value_spells h) l

-- ---- the object

-- the template's length fits 16 bits too
pub record Short (w : Widths) (c : Content) : Type 0 where
  pub value : ShortValue w c
  pub inner : length (object90_out (value_out w c)) < 2 ^ 16

module _ (w : Widths) (c : Content) (h : Short w c) where
  object_spells : Spells (object_out (value_out w c)) (object_bits (value_is w c) [])
  object_spells =
      let a = object90_spells w c h.value (omega (arith, h.inner, inner_long (value_out w c))) in
      let b : tagged_bits (bits_of_number 8 0x90) (value_is w c) ++ [] ≡ tagged_bits (bits_of_number 8 0x90) (value_is w c) = append-nil _ in
      rw b (tagged_spells {tag = two 0x7F2E} (spells_two (omega arith)) a h.inner)

  -- nothing follows 90
  pub object_written : c.behind ≡ [] → object_of w c ≡ object_out (value_out w c)
  unfolding object_of card content
  object_written e = ap (λ (xs : List Other). in_bytes (object_bits (value_is w c) xs)) e ∙ in_spelled object_spells
