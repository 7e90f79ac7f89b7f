-- What the code that goes over a card's object answers: where its parts stand, or that what it is asked for is refused with 27. A part stands
-- where it does whatever its blocks hold, so that nothing is said of these here.
use Rattle.std.specs.Prelude.{◌≡◌, ℕ, ◌+◌, ◌-◌, ◌*◌, ◌≤◌, ◌<◌, Bool, true, false, Option, Some, None, List, [], length, take, drop}
use Rattle.bits.specs.Bits.{Bits}
use Rattle.bits.specs.Bytes.{bits_of}
use Rattle.bits.specs.Codec.{Read, got, field_dec}
use Rattle.bits.specs.CodecLaws.{fixed}
use Rattle.bits.specs.Reads.{Found, found, fault, Reads}
use Rattle.outcome.specs.Refusals.{bad_object}
use Rattle.card.specs.Length.{object_length}
use Rattle.card.specs.Object.{Other, others, any_bytes, value_block, template}
use Rattle.card.specs.Card.{shape}
use Rattle.format.specs.declared.Part.{Part}
use Rattle.card_shape.specs.declared.LengthAt.{LengthAt}
use Rattle.card_shape.specs.declared.Value.{Value}

-- the bytes are refused with 27, wherever
pub record Bad {A : Type 0} (d : Bits → Read Bool A) (bytes : List ℕ) : Type 0 where
  pub place : ℕ
  pub reads : Reads d bytes 0 (fault bad_object place)

-- ---- a length at byte a

abbrev pub length_at : ℕ → Option LengthAt → Found ℕ
length_at a (Some x) = found x.length (8 * x.next)
length_at a None = fault bad_object (8 * a)

abbrev pub LengthFound : List ℕ → ℕ → Option LengthAt → Type 0
LengthFound bytes a r = Reads object_length.dec bytes (8 * a) (length_at a r)

-- ---- a value behind its length, which is at byte a

-- it is whole
pub record WholeValue (bytes : List ℕ) (a : ℕ) (x : Part) : Type 0 where
  pub counted : Reads object_length.dec bytes (8 * a) (found (x.to - x.from) (8 * x.from))
  pub ordered : x.from ≤ x.to
  pub within : x.to ≤ length bytes

-- its length is not right, or more than the bytes behind it
pub data CutValue (bytes : List ℕ) (a : ℕ) : Type 0 where
  length_bad : Reads object_length.dec bytes (8 * a) (fault bad_object (8 * a)) → CutValue bytes a
  value_past : (n q : ℕ) → Reads object_length.dec bytes (8 * a) (found n (8 * q)) → length bytes - q < n → CutValue bytes a

abbrev pub ValueFound : List ℕ → ℕ → Option Part → Type 0
ValueFound bytes a (Some x) = WholeValue bytes a x
ValueFound bytes a None = CutValue bytes a

-- ---- the objects behind 90

abbrev pub OthersFound : List ℕ → Bool → Type 0
OthersFound bytes true = (xs : List Other) × (others.dec (bits_of bytes) ≡ got xs [])
OthersFound bytes false = Bad others.dec bytes

-- ---- the blocks of a value: the skeleton from byte 6 up to byte i, where the index's length is, and the index behind that

pub record BlocksStand (bytes : List ℕ) (i : ℕ) : Type 0 where
  pub width : ℕ
  pub height : ℕ
  pub wide : Reads (field_dec bad_object 16) bytes 0 (found width 16)
  pub high : Reads (field_dec bad_object 16) bytes 16 (found height 32)
  pub skeleton : Reads (field_dec bad_object 16) bytes 32 (found (i - 6) 48)
  pub index : Reads (field_dec bad_object 16) bytes (8 * i) (found (length bytes - (i + 2)) (8 * (i + 2)))
  pub low : 6 ≤ i
  pub within : i + 2 ≤ length bytes

abbrev pub BlocksFound : List ℕ → Option ℕ → Type 0
BlocksFound bytes (Some i) = BlocksStand bytes i
BlocksFound bytes None = Bad (value_block any_bytes (λ _. any_bytes)).dec bytes

-- ---- the template

pub record TemplateStands (bytes : List ℕ) (x : Value) : Type 0 where
  pub tag : Reads (fixed bad_object 8 0x90).dec bytes 0 (found tt 8)
  pub value : WholeValue bytes 1 (record { from = x.from; to = x.to })
  pub low : x.from ≤ x.index
  pub blocks : BlocksStand (take (x.to - x.from) (drop x.from bytes)) (x.index - x.from)
  pub behind : List Other
  pub others : others.dec (bits_of (drop x.to bytes)) ≡ got behind []

abbrev pub TemplateFound : List ℕ → Option Value → Type 0
TemplateFound bytes (Some x) = TemplateStands bytes x
TemplateFound bytes None = Bad (template (value_block any_bytes (λ _. any_bytes))).dec bytes

-- ---- the object: x is its value, and its template starts at byte a

pub record ShapeStands (bytes : List ℕ) (x : Value) : Type 0 where
  pub tag : Reads (fixed bad_object 16 0x7F2E).dec bytes 0 (found tt 16)
  pub a : ℕ
  pub counted : Reads object_length.dec bytes 16 (found (length bytes - a) (8 * a))
  pub within : a ≤ length bytes
  pub y : Value
  pub template : TemplateStands (take (length bytes - a) (drop a bytes)) y
  pub from : x.from ≡ a + y.from
  pub index : x.index ≡ a + y.index
  pub to : x.to ≡ a + y.to

abbrev pub ShapeFound : List ℕ → Option Value → Type 0
ShapeFound bytes (Some x) = ShapeStands bytes x
ShapeFound bytes None = Bad shape.dec bytes
