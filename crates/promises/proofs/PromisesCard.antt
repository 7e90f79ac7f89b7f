-- WHAT THE LIBRARY PROMISES OF A CARD'S OBJECT: reading one as a record of one view, and writing the object of a view, at each of the two
-- sizes. Every statement is of any size: its number is a parameter. Promises is the front page; runs of start coordinates stand in
-- PromisesRuns. The names in statements stand in specs/:
--   bits/specs/Choice, Lists, Bits, Bytes, Codec   within; All; Bits; Byte, bits_of; got
--   outcome/specs/Refusals, Numbers, Placed  no_view, bad_object, other_scale; Gives, card_read_numbers, card_write_numbers; Placed
--   outcome/specs/Outcome      refused, given, Answers, Gave
--   format/specs/Record, Named   read, write; named, NoViewNamed
--   card/specs/Length, Object  the format of an object, whatever its blocks are
--   card/specs/Size            scale_of: what each size fixes
--   card/specs/Card            Content, card, record_of_card, card_read, card_of_view, view_of_card, object_of, card_write
--   card/specs/Accepted        ReadsAt, its_record, Alone, ViewAtSize, its_card, its_object; AcceptedCardRead, AcceptedCardWrite, WrongObject,
--                              OtherScale
--   places/specs/Reach         reach, Agree, AnsweredAlike
-- `Answer` is the struct of outcome/src, `Widths`, `Scale` and `ViewName` those of format/src, `length`, `take`, `T` and the signs are the
-- toolchain's. That a refusal writes nothing, and that the contracts allow one answer and one buffer alone, is said of every call on the
-- front page (`refusal_writes_nothing`, `one_answer`).
use mathlib.Core.Path.{◌≡◌}
use mathlib.Core.Logic.{◌≢◌}
use Prim.Native.Nat.{ℕ, ◌+◌, ◌*◌, ◌≤◌}
use mathlib.Core.Option.{some}
use mathlib.Core.List.{List, []}
use lib.ListN.{length, take}
use lib.Dec.{T}
use Rattle.bits.specs.Choice.{within}
use Rattle.bits.specs.Lists.{All}
use Rattle.bits.specs.Bits.{Bits}
use Rattle.bits.specs.Bytes.{Byte, bits_of}
use Rattle.bits.specs.Codec.{got}
use Rattle.outcome.specs.Refusals.{no_view, bad_object, other_scale}
use Rattle.outcome.specs.Numbers.{Gives, card_read_numbers, card_write_numbers}
use Rattle.outcome.specs.Placed.{Placed}
use Rattle.outcome.specs.Outcome.{refused, given, Answers, Gave}
use Rattle.outcome.specs.declared.Answer.{Answer}
use Rattle.format.specs.Record.{read, write}
use Rattle.format.specs.Named.{named, NoViewNamed}
use Rattle.format.specs.declared.Widths.{Widths}
use Rattle.format.specs.declared.Scale.{Scale}
use Rattle.format.specs.declared.ViewName.{ViewName}
use Rattle.card.specs.Size.{scale_of}
use Rattle.card.specs.Card.{Content, card, view_of_card, record_of_card, card_read, card_of_view, object_of, card_write}
use Rattle.card.specs.Accepted.{ReadsAt, its_record, Alone, ViewAtSize, its_card, its_object, AcceptedCardRead, WrongObject, AcceptedCardWrite, OtherScale}
use Rattle.card.proofs.Laws.Calls as CardCalls
use Rattle.card.proofs.Laws.Numbers as CardNumbers
use Rattle.card.proofs.Laws.Accept as CardAccept
use Rattle.card.proofs.Laws.Back as CardBack
use Rattle.places.specs.Reach.{reach, Agree, AnsweredAlike}
use Rattle.promises.proofs.Decides as Decides
use Rattle.promises.proofs.Unnamed as Unnamed

-- ---- THE FORMAT: an object and what stands on the card give each other back, at any widths

pub object_read : (w : Widths) (c : Content) → (card w).Fits c → (card w).dec (bits_of (object_of w c)) ≡ got c []
object_read = CardCalls.object_read

pub object_right : (w : Widths) (object : List ℕ) (c : Content) (rest : Bits) → All Byte object → (card w).dec (bits_of object) ≡ got c rest
    → (card w).Fits c × (object ≡ object_of w c)
object_right = CardCalls.object_right

-- ---- READING AND WRITING

-- what reading gives is the record of one view with the card's zeros, and it is one that document 01 describes
pub read_makes : (size_number : ℕ) (object bytes : List ℕ) → card_read size_number object ≡ given bytes
    → (x : ReadsAt size_number object) × (bytes ≡ write (its_record x)) × (read bytes ≡ got (its_record x) [])
read_makes = CardCalls.read_makes

-- what writing gives is the object of that view, which is never longer than the record
pub write_makes : (size_number : ℕ) (view : ViewName) (bytes object : List ℕ) → card_write size_number view bytes ≡ given object
    → (x : ViewAtSize size_number view bytes) × (x.value.head.scale ≡ x.scale) × (object ≡ its_object x) × (length object ≤ length bytes)
write_makes = CardCalls.write_makes

-- writing what was read gives the object back where it held 90 alone; else the object of 90 alone
pub write_after_read : {size_number : ℕ} {object : List ℕ} (x : ReadsAt size_number object)
    → card_write size_number (named 0 0) (write (its_record x)) ≡ given (object_of x.scale.widths (card_of_view (view_of_card x.value)))
write_after_read = CardCalls.write_after

pub write_back : {size_number : ℕ} {object : List ℕ} (x : ReadsAt size_number object) → All Byte object → Alone x
    → card_write size_number (named 0 0) (write (its_record x)) ≡ given object
write_back = CardCalls.write_back

-- reading what was written gives the record of that one view with the card's zeros
pub read_after_write : (size_number : ℕ) (view : ViewName) (bytes object : List ℕ) → card_write size_number view bytes ≡ given object
    → (x : ViewAtSize size_number view bytes) × (card_read size_number object ≡ given (write (record_of_card x.scale (its_card x))))
read_after_write = CardCalls.read_after_write

-- the calls themselves: where the first answers 0, and the second is lent what it wrote and room enough
pub read_then_write : {before after before₂ after₂ : List ℕ} {a b : Answer} (size_number : ℕ) (object : List ℕ) (x : ReadsAt size_number object) → All Byte object
    → Alone x → Answers (card_read size_number object) before after a → a.number ≡ 0
    → Answers (card_write size_number (named 0 0) (take a.length after)) before₂ after₂ b → length object ≤ length before₂ → Gave object after₂ b
read_then_write = CardBack.read_then_write

pub write_then_read : {before after before₂ after₂ : List ℕ} {a b : Answer} (size_number : ℕ) (view : ViewName) (bytes : List ℕ)
    → Answers (card_write size_number view bytes) before after a → a.number ≡ 0
    → Answers (card_read size_number (take a.length after)) before₂ after₂ b → 32768 ≤ length before₂
    → (x : ViewAtSize size_number view bytes) × Gave (write (record_of_card x.scale (its_card x))) after₂ b
write_then_read = CardBack.write_then_read

-- the sizes exclude each other: a record that makes an object at the one is refused with 28 at the other
pub sizes_exclude : (m n : ℕ) (view : ViewName) (bytes object : List ℕ) {scale : Scale} → m ≢ n → scale_of n ≡ some scale → card_write m view bytes ≡ given object
    → card_write n view bytes ≡ refused other_scale 0
sizes_exclude = CardCalls.other_size

-- ---- NUMBERS AND PLACES

pub card_read_numbers_lem : {before after : List ℕ} {a : Answer} (size_number : ℕ) (object : List ℕ) → Answers (card_read size_number object) before after a
    → Gives card_read_numbers a.number
card_read_numbers_lem = CardNumbers.read_numbers_lem

pub card_write_numbers_lem : {before after : List ℕ} {a : Answer} (size_number : ℕ) (view : ViewName) (bytes : List ℕ)
    → Answers (card_write size_number view bytes) before after a → Gives card_write_numbers a.number
card_write_numbers_lem = CardNumbers.write_numbers_lem

-- those of an object are counted from its first bit
pub card_read_place : {before after : List ℕ} {a : Answer} (size_number : ℕ) (object : List ℕ) → Answers (card_read size_number object) before after a
    → Placed (8 * length object) a.number a.place
card_read_place = CardNumbers.read_place

pub card_write_place : {before after : List ℕ} {a : Answer} (size_number : ℕ) (view : ViewName) (bytes : List ℕ)
    → Answers (card_write size_number view bytes) before after a → Placed (8 * length bytes) a.number a.place
card_write_place = CardNumbers.write_place

pub card_write_decided : (size_number : ℕ) (view : ViewName) (a b : List ℕ) {before after before₂ after₂ : List ℕ} {x y : Answer}
    → Answers (card_write size_number view a) before after x → Answers (card_write size_number view b) before₂ after₂ y
    → T (within 2 12 x.number) → Agree (x.place + reach x.number) a b → AnsweredAlike x y
card_write_decided = Decides.card_decided

-- ---- ACCEPTED: 0 exactly where the object reads, its record is short enough and there is room; or the record has that view and the size's
-- scale, and there is room

pub card_read_accepted : {before after : List ℕ} {a : Answer} (size_number : ℕ) (object : List ℕ) → Answers (card_read size_number object) before after a
    → a.number ≡ 0 → AcceptedCardRead size_number object (length before)
card_read_accepted = CardAccept.read_accepted

pub accepted_card_read : {before after : List ℕ} {a : Answer} (size_number : ℕ) (object : List ℕ) → Answers (card_read size_number object) before after a
    → AcceptedCardRead size_number object (length before) → a.number ≡ 0
accepted_card_read = CardAccept.accepted_read

pub card_write_accepted : {before after : List ℕ} {a : Answer} (size_number : ℕ) (view : ViewName) (bytes : List ℕ)
    → Answers (card_write size_number view bytes) before after a → a.number ≡ 0 → AcceptedCardWrite size_number view bytes (length before)
card_write_accepted = CardAccept.write_accepted

pub accepted_card_write : {before after : List ℕ} {a : Answer} (size_number : ℕ) (view : ViewName) (bytes : List ℕ)
    → Answers (card_write size_number view bytes) before after a → AcceptedCardWrite size_number view bytes (length before) → a.number ≡ 0
accepted_card_write = CardAccept.accepted_write

-- ---- REFUSED: 27 of an object exactly where there is no such size or the shape is wrong, whatever its blocks are; 28 exactly where the view is
-- there and the record's scale is another; 13 exactly where there is such a size and no view has the name

pub card_read_wrong : {before after : List ℕ} {a : Answer} (size_number : ℕ) (object : List ℕ) → Answers (card_read size_number object) before after a
    → a.number ≡ bad_object → WrongObject size_number object
card_read_wrong = CardAccept.read_wrong

pub wrong_card_read : {before after : List ℕ} {a : Answer} (size_number : ℕ) (object : List ℕ) → Answers (card_read size_number object) before after a
    → WrongObject size_number object → a.number ≡ bad_object
wrong_card_read = CardAccept.wrong_read

pub card_write_other : {before after : List ℕ} {a : Answer} (size_number : ℕ) (view : ViewName) (bytes : List ℕ)
    → Answers (card_write size_number view bytes) before after a → a.number ≡ other_scale → OtherScale size_number view bytes
card_write_other = CardAccept.write_other

pub other_card_write : {before after : List ℕ} {a : Answer} (size_number : ℕ) (view : ViewName) (bytes : List ℕ)
    → Answers (card_write size_number view bytes) before after a → OtherScale size_number view bytes → a.number ≡ other_scale
other_card_write = CardAccept.other_write

pub card_write_unnamed : (size_number : ℕ) {scale : Scale} (view : ViewName) (bytes : List ℕ) → scale_of size_number ≡ some scale → {before after : List ℕ} {a : Answer}
    → Answers (card_write size_number view bytes) before after a
    → (a.number ≡ no_view → NoViewNamed view bytes) × (NoViewNamed view bytes → a.number ≡ no_view)
card_write_unnamed = Unnamed.card_unnamed
