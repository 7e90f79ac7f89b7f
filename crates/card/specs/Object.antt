-- The card's object: "template 7F2E with object 90 inside (table 6 of document 000), value as in table 9: width (2), height (2), skeleton
-- length (2), skeleton, index length (2), index. Objects after 90 (one tag byte each) are passed over when reading and not written." It is
-- written once, whatever blocks stand for skeleton and index.
use Rattle.std.specs.Prelude.{◌≡◌, refl, ℕ, ◌/◌, ◌%◌, ◌<◌, Bool, List, length}
use Rattle.std.proofs.Common.{arith, length-append}
use Rattle.bits.specs.BitsLaws.{length_bits}
use Rattle.bits.specs.Codec.{Codec}
use Rattle.bits.specs.CodecLaws.{field, then, fixed, Matches}
use Rattle.bits.specs.Block.{Block}
use Rattle.bits.proofs.BlockLaws.{fill}
use Rattle.bits.specs.SizedLaws.{ahead, recast, headed, prefixed}
use Rattle.bits.specs.ExactLaws.{exact}
use Rattle.outcome.specs.Refusals.{bad_object}
use Rattle.card.specs.Length.{object_length, length_whole}

-- ---- data objects

-- any bytes
abbrev pub any_bytes : Block (List ℕ)
any_bytes = fill (field bad_object 8) bad_object (λ n. simp length_bits (omega arith)) (λ n. simp length_bits refl)

-- a tag, a length, and a value of so many bytes
abbrev pub object_head : {T : Type 0} → Codec Bool T → Codec Bool (T × ℕ)
object_head tag = then tag λ _. object_length

abbrev pub data_object : {T A : Type 0} → Codec Bool T → Block A → Codec Bool (T × A)
data_object tag value = headed (object_head tag) value bad_object

pub object_whole : {T A : Type 0} (tag : Codec Bool T) (value : Block A) → ((t : T) → length (tag.enc t) % 8 ≡ 0)
    → (x : T × A) → length ((data_object tag value).enc x) % 8 ≡ 0
object_whole tag value whole x = simp length-append (omega (arith, whole x.0, length_whole (length (value.enc x.1) / 8), value.bytes x.1))

-- ---- the value of object 90: s is the skeleton block, i the index block, which may look at what s reads

-- width and height
abbrev pub image_size : Codec Bool (ℕ × ℕ)
image_size = then (field bad_object 16) λ _. field bad_object 16

module _ {A B : Type 0} (s : Block A) (i : A → Block B) where
  abbrev pub value_parts : Codec Bool ((ℕ × ℕ) × (A × B))
  value_parts = then image_size λ _. then (prefixed s bad_object) λ a. prefixed (i a) bad_object

  pub value_whole : (x : (ℕ × ℕ) × (A × B)) → length (value_parts.enc x) % 8 ≡ 0
  value_whole x = simp (length-append, length_bits) (omega (arith, s.bytes x.1.0, (i x.1.0).bytes x.1.1))

  -- nothing is left in it
  abbrev pub value_block : Block ((ℕ × ℕ) × (A × B))
  value_block = exact value_parts bad_object value_whole

-- ---- the template: object 90 with this value, and whatever objects follow

-- one that is passed over: its tag, of one byte, and its bytes
abbrev pub Other : Type 0
Other = ℕ × List ℕ

unfoldable pub other : Codec Bool Other
other = data_object (field bad_object 8) any_bytes

pub other_whole : (x : Other) → length (other.enc x) % 8 ≡ 0
unfolding other
other_whole x = object_whole (field bad_object 8) any_bytes (λ n. simp length_bits refl) x

pub other_some : (x : Other) → 0 < length (other.enc x)
unfolding other
other_some x = simp (length-append, length_bits) (omega arith)

abbrev pub others : Block (List Other)
others = fill other bad_object other_some other_whole

module _ {A : Type 0} (value : Block A) where
  abbrev pub object90 : Codec Bool (Unit {0} × A)
  object90 = data_object (fixed bad_object 8 0x90) value

  abbrev pub template : Block ((Unit {0} × A) × List Other)
  template = ahead object90 (object_whole (fixed bad_object 8 0x90) value (λ u. simp length_bits refl)) λ _. others

  abbrev pub object7_f2_e : Codec Bool (Unit {0} × ((Unit {0} × A) × List Other))
  object7_f2_e = data_object (fixed bad_object 16 0x7F2E) template

  -- no bytes come after it
  abbrev pub whole_object : Block (Unit {0} × ((Unit {0} × A) × List Other))
  whole_object = exact object7_f2_e bad_object (object_whole (fixed bad_object 16 0x7F2E) template (λ u. simp length_bits refl))

-- ---- as values

-- what stands on a card: the size of the image, the view's blocks, and the objects behind 90
pub record Card (A B : Type 0) : Type 0 where
  pub width : ℕ
  pub height : ℕ
  pub skeleton : A
  pub index : B
  pub behind : List Other

abbrev pub CardParts : Type 0 → Type 0 → Type 0
CardParts A B = Unit {0} × ((Unit {0} × ((ℕ × ℕ) × (A × B))) × List Other)

abbrev pub make_card : {A B : Type 0} → CardParts A B → Card A B
make_card t = record { width = t.1.0.1.0.0; height = t.1.0.1.0.1; skeleton = t.1.0.1.1.0; index = t.1.0.1.1.1; behind = t.1.1 }

abbrev pub parts_of_card : {A B : Type 0} → Card A B → CardParts A B
parts_of_card c = (tt, ((tt, ((c.width, c.height), (c.skeleton, c.index))), c.behind))

pub card_matches : {A B : Type 0} (P : CardParts A B → Type 0) → Matches P make_card parts_of_card (λ c. P (parts_of_card c))
card_matches P = record { fits = λ c h. h; same = λ c h. refl; allowed = λ t h. h; again = λ t h. refl }

abbrev pub card_block : {A B : Type 0} → Block A → (A → Block B) → Block (Card A B)
card_block s i =
    recast (whole_object (value_block s i)) make_card parts_of_card (λ c. (whole_object (value_block s i)).Fits (parts_of_card c))
    (card_matches (whole_object (value_block s i)).Fits)
