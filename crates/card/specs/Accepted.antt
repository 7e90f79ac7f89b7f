-- When the calls on a card's object are accepted, when they give 27 and 28, and what each then gives. lent is how many bytes the output
-- has.
use Rattle.std.specs.Prelude.{◌≡◌, ◌≢◌, ◌⊎◌, ℕ, ◌≤◌, List, [], length}
use Rattle.std.proofs.Math.Option.{none, some}
use Rattle.bits.specs.Bits.{Bits}
use Rattle.bits.specs.Bytes.{bits_of}
use Rattle.bits.specs.Codec.{got}
use Rattle.format.specs.Limits.{most_bytes}
use Rattle.format.specs.Record.{Record, read, size}
use Rattle.format.specs.Places.{view_at}
use Rattle.format.specs.Named.{Means}
use Rattle.format.specs.declared.Scale.{Scale}
use Rattle.format.specs.declared.ViewName.{ViewName}
use Rattle.card.specs.Object.{Card}
use Rattle.card.specs.Size.{scale_of}
use Rattle.card.specs.Card.{Content, shape, card, record_of_card, card_of_view, object_of}

-- ---- reading

-- the object reads, at that size, as this content, whose record has at most 32,768 bytes
pub record ReadsAt (size_number : ℕ) (object : List ℕ) : Type 0 where
  pub scale : Scale
  pub known : scale_of size_number ≡ some scale
  pub value : Content
  pub reads : (card scale.widths).dec (bits_of object) ≡ got value []
  pub small : size (record_of_card scale value) ≤ most_bytes

-- its record
abbrev pub its_record : {size_number : ℕ} {object : List ℕ} → ReadsAt size_number object → Record
its_record x = record_of_card x.scale x.value

-- the card held 90 alone
abbrev pub Alone : {size_number : ℕ} {object : List ℕ} → ReadsAt size_number object → Type 0
Alone x = x.value.behind ≡ []

-- and there is room
pub record AcceptedCardRead (size_number : ℕ) (object : List ℕ) (lent : ℕ) : Type 0 where
  pub at : ReadsAt size_number object
  pub room : size (its_record at) ≤ lent

-- 27: there is no such size, or the bytes have no such shape
abbrev pub NoShape : List ℕ → Type 0
NoShape object = (c : Card (List ℕ) (List ℕ)) (rest : Bits) → shape.dec (bits_of object) ≢ got c rest

abbrev pub WrongObject : (size_number : ℕ) → List ℕ → Type 0
WrongObject size_number object = (scale_of size_number ≡ none) ⊎ NoShape object

-- ---- writing

-- the bytes read as a record with that view, and there is such a size
pub record ViewAtSize (size_number : ℕ) (view : ViewName) (bytes : List ℕ) : Type 0 where
  pub scale : Scale
  pub known : scale_of size_number ≡ some scale
  pub value : Record
  pub reads : read bytes ≡ got value []
  pub i : ℕ
  pub means : Means view value i

-- its content, and the object that it makes
abbrev pub its_card : {size_number : ℕ} {view : ViewName} {bytes : List ℕ} → ViewAtSize size_number view bytes → Content
its_card x = card_of_view (view_at x.value x.i)

abbrev pub its_object : {size_number : ℕ} {view : ViewName} {bytes : List ℕ} → ViewAtSize size_number view bytes → List ℕ
its_object x = object_of x.scale.widths (its_card x)

-- the record has the size's scale, and there is room
pub record AcceptedCardWrite (size_number : ℕ) (view : ViewName) (bytes : List ℕ) (lent : ℕ) : Type 0 where
  pub at : ViewAtSize size_number view bytes
  pub same : at.value.head.scale ≡ at.scale
  pub room : length (its_object at) ≤ lent

-- 28: it has another
pub record OtherScale (size_number : ℕ) (view : ViewName) (bytes : List ℕ) : Type 0 where
  pub at : ViewAtSize size_number view bytes
  pub other : at.value.head.scale ≢ at.scale
