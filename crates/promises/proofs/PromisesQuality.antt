-- WHAT THE LIBRARY PROMISES OF LOCAL QUALITY, the payload of a view's segments of type 0x0003: reading its values, and rewriting a
-- payload from values. Promises is the front page. The names in statements stand in specs/:
--   bits/specs/Choice, Lists, Bytes, Codec   within; All; Byte; got
--   outcome/specs/Refusals, Numbers, Placed  no_view, bad_quality; Gives, quality_numbers, set_quality_numbers; Placed
--   outcome/specs/Outcome      given, Answers, Gave
--   format/specs/Record        Record, read
--   format/specs/Places, Named  view_at, image_of; NoViewNamed, Means
--   rewrite/specs/Bytes, Format  Rewrites; what a format of payloads is
--   rewrite/specs/Called, Accepted  the two calls on payloads of a format; AcceptedReading, AcceptedSetting, BrokenReading, BrokenSetting
--   quality_parts/specs/Parts  values_right
--   quality/specs/Payload      quality_block, payload_for
--   quality/specs/Quality      quality_format, quality, set_quality
--   places/specs/Reach         reach, Agree, AnsweredAlike
-- `Answer` is the struct of outcome/src, `Image` and `ViewName` those of format/src, `length`, `take`, `T` and the signs are the
-- toolchain's. That a refusal writes nothing, and that the contracts allow one answer and one buffer alone, is said of every call on the
-- front page (`refusal_writes_nothing`, `one_answer`).
use mathlib.Core.Path.{◌≡◌, sym}
use Prim.Native.Nat.{ℕ, ◌+◌, ◌*◌, ◌≤◌}
use native.Mathlib.Omega.{arith}
use mathlib.Core.List.{List, []}
use lib.ListN.{length, take, drop}
use lib.Dec.{T}
use Rattle.bits.specs.Choice.{within}
use Rattle.bits.specs.Lists.{All}
use Rattle.bits.specs.Bits.{Bits}
use Rattle.bits.specs.Bytes.{Byte, bits_of}
use Rattle.bits.specs.Codec.{got}
use Rattle.outcome.specs.Refusals.{no_view, bad_quality}
use Rattle.outcome.specs.Numbers.{Gives, quality_numbers, set_quality_numbers}
use Rattle.outcome.specs.Placed.{Placed}
use Rattle.outcome.specs.Outcome.{given, Answers, Gave}
use Rattle.outcome.specs.declared.Answer.{Answer}
use Rattle.format.specs.Record.{Record, read}
use Rattle.format.specs.Places.{view_at, image_of}
use Rattle.format.specs.Named.{NoViewNamed, Means}
use Rattle.format.specs.declared.Image.{Image}
use Rattle.format.specs.declared.ViewName.{ViewName}
use Rattle.rewrite.specs.Bytes.{Rewrites}
use Rattle.rewrite.specs.Accepted.{AcceptedReading, AcceptedSetting, BrokenReading, BrokenSetting}
use Rattle.rewrite.proofs.Laws.Payload as Payload
use Rattle.rewrite.proofs.Laws.Calls as Calls
use Rattle.rewrite.proofs.Laws.PayloadNumbers as PayloadNumbers
use Rattle.rewrite.proofs.Laws.PayloadAccept as PayloadAccept
use Rattle.rewrite.proofs.Laws.PayloadBroken as PayloadBroken
use Rattle.quality_parts.specs.Parts.{values_right}
use Rattle.quality.specs.Payload.{quality_block, payload_for}
use Rattle.quality.specs.PayloadLaws as PayloadLaws
use Rattle.quality.specs.Quality.{quality_format, quality, set_quality}
use Rattle.quality.proofs.Laws.Calls as QualityCalls
use Rattle.quality.proofs.Laws.Room as QualityRoom
use Rattle.places.specs.Reach.{reach, Agree, AnsweredAlike}
use Rattle.promises.proofs.Placed as Placing
use Rattle.promises.proofs.Decides as Decides
use Rattle.promises.proofs.Unnamed as Unnamed

-- ---- THE FORMAT: a payload and its values give each other back

pub values_read : (image : Image) (values : List ℕ) → T (values_right image values) → (quality_block image).dec (bits_of (payload_for image values)) ≡ got values []
values_read = PayloadLaws.payload_there

pub values_right_lem : (image : Image) (payload values : List ℕ) (rest : Bits) → All Byte payload → (quality_block image).dec (bits_of payload) ≡ got values rest
    → T (values_right image values) × (payload ≡ payload_for image values)
values_right_lem = PayloadLaws.payload_back

-- ---- READING AND REWRITING

-- rewriting what was read gives the record back
pub set_after_read : (view : ViewName) (place : ℕ) (values bytes : List ℕ) → All Byte bytes → quality view place bytes ≡ given values
    → set_quality view place values bytes ≡ given bytes
set_after_read = Payload.set_after_read quality_format

-- reading what was rewritten gives the values
pub read_after_set : (view : ViewName) (place : ℕ) (values bytes new : List ℕ) → set_quality view place values bytes ≡ given new → quality view place new ≡ given values
read_after_set = QualityCalls.read_after_set

-- what is rewritten is an allowed record, and all of it but the payload, its segment's length, the extended length and the record
-- length keeps its bytes
pub set_rewrites : (view : ViewName) (place : ℕ) (values bytes : List ℕ) → All Byte bytes → {P : Type 0} (new : List ℕ) → set_quality view place values bytes ≡ given new
    → ((r : Record) (i : ℕ) → read bytes ≡ got r [] → Means view r i → Rewrites i place (payload_for (image_of (view_at r i)) values) r bytes new → P) → P
set_rewrites = QualityCalls.set_rewrites

-- the calls themselves: where the first answers 0, and the second is lent what it wrote and room enough, the second gives back what
-- the first was lent
pub quality_back : (view : ViewName) (place : ℕ) {before after before₂ after₂ : List ℕ} {a b : Answer} (bytes : List ℕ) → All Byte bytes
    → Answers (quality view place bytes) before after a → a.number ≡ 0
    → Answers (set_quality view place (take a.length after) bytes) before₂ after₂ b → length bytes ≤ length before₂ → Gave bytes after₂ b
quality_back view place {a = a} bytes y h z = Calls.reading_back quality_format (omega arith) view place bytes y h z a.length (λ xs l. sym l)

pub setting_back : (view : ViewName) (place : ℕ) (values bytes : List ℕ) {before after before₂ after₂ : List ℕ} {a b : Answer}
    → Answers (set_quality view place values bytes) before after a → a.number ≡ 0
    → Answers (quality view place (take a.length after)) before₂ after₂ b → length values ≤ length before₂ → Gave values after₂ b
setting_back = QualityCalls.setting_back

-- eight times a record's length is room for the values
pub quality_room : (view : ViewName) (place : ℕ) (bytes values : List ℕ) → quality view place bytes ≡ given values → length values ≤ 8 * length bytes
quality_room = QualityRoom.quality_room

-- ---- NUMBERS AND PLACES

pub quality_numbers_lem : {before after : List ℕ} {a : Answer} (view : ViewName) (place : ℕ) (bytes : List ℕ) → Answers (quality view place bytes) before after a
    → Gives quality_numbers a.number
quality_numbers_lem view place bytes = PayloadNumbers.reading_numbers quality_format (drop 1 quality_numbers) tt tt tt view place bytes

pub setting_numbers : {before after : List ℕ} {a : Answer} (view : ViewName) (place : ℕ) (values bytes : List ℕ)
    → Answers (set_quality view place values bytes) before after a → Gives set_quality_numbers a.number
setting_numbers view place values bytes = PayloadNumbers.setting_numbers quality_format (drop 1 set_quality_numbers) tt tt tt view place tt values bytes

pub quality_place : {before after : List ℕ} {a : Answer} (view : ViewName) (place : ℕ) (bytes : List ℕ) → Answers (quality view place bytes) before after a
    → Placed (8 * length bytes) a.number a.place
quality_place view place bytes = Placing.payload_place quality_format view place bytes

pub setting_place : {before after : List ℕ} {a : Answer} (view : ViewName) (place : ℕ) (values bytes : List ℕ)
    → Answers (set_quality view place values bytes) before after a → Placed (8 * length bytes) a.number a.place
setting_place view place values bytes = Placing.setting_place quality_format view place values bytes

pub quality_decided : (view : ViewName) (place : ℕ) (a b : List ℕ) {before after before₂ after₂ : List ℕ} {x y : Answer} → Answers (quality view place a) before after x
    → Answers (quality view place b) before₂ after₂ y → T (within 2 12 x.number) → Agree (x.place + reach x.number) a b → AnsweredAlike x y
quality_decided view place a b = Decides.payload_decided quality_format (omega arith) view place a b

pub setting_decided : (view : ViewName) (place : ℕ) (values a b : List ℕ) {before after before₂ after₂ : List ℕ} {x y : Answer}
    → Answers (set_quality view place values a) before after x → Answers (set_quality view place values b) before₂ after₂ y → T (within 2 12 x.number)
    → Agree (x.place + reach x.number) a b → AnsweredAlike x y
setting_decided view place values a b = Decides.setting_decided quality_format (omega arith) view place values a b

-- ---- ACCEPTED: 0 exactly where the segment is there and of this type, its payload or the values are right, and there is room

pub quality_accepted : (view : ViewName) (place : ℕ) (bytes : List ℕ) {before after : List ℕ} {a : Answer} → Answers (quality view place bytes) before after a
    → a.number ≡ 0 → AcceptedReading quality_format view place bytes (length before)
quality_accepted view place bytes h = PayloadAccept.reading_accepted quality_format view place bytes h (omega arith)

pub accepted_quality : (view : ViewName) (place : ℕ) (bytes : List ℕ) {before after : List ℕ} {a : Answer} → Answers (quality view place bytes) before after a
    → AcceptedReading quality_format view place bytes (length before) → a.number ≡ 0
accepted_quality view place bytes = PayloadAccept.accepted_reading quality_format view place bytes

pub setting_accepted : (view : ViewName) (place : ℕ) (bytes : List ℕ) {before after : List ℕ} {a : Answer} (values : List ℕ)
    → Answers (set_quality view place values bytes) before after a → a.number ≡ 0 → AcceptedSetting quality_format view place values bytes (length before)
setting_accepted view place bytes values h = PayloadAccept.setting_accepted quality_format view place bytes values h (omega arith)

pub accepted_setting : (view : ViewName) (place : ℕ) (bytes : List ℕ) {before after : List ℕ} {a : Answer} (values : List ℕ)
    → Answers (set_quality view place values bytes) before after a → AcceptedSetting quality_format view place values bytes (length before) → a.number ≡ 0
accepted_setting view place bytes values = PayloadAccept.accepted_setting quality_format view place bytes values

-- ---- UNNAMED: 13 exactly where the bytes read as a record of which no view has that finger position and view number

pub quality_unnamed : (view : ViewName) (place : ℕ) (bytes : List ℕ) {before after : List ℕ} {a : Answer}
    → Answers (quality view place bytes) before after a
    → (a.number ≡ no_view → NoViewNamed view bytes) × (NoViewNamed view bytes → a.number ≡ no_view)
quality_unnamed view place bytes = Unnamed.payload_unnamed quality_format (omega arith) view place bytes

pub setting_unnamed : (view : ViewName) (place : ℕ) (values bytes : List ℕ) {before after : List ℕ} {a : Answer}
    → Answers (set_quality view place values bytes) before after a
    → (a.number ≡ no_view → NoViewNamed view bytes) × (NoViewNamed view bytes → a.number ≡ no_view)
setting_unnamed view place values bytes = Unnamed.setting_unnamed quality_format (omega arith) view place values bytes

-- ---- BROKEN: 24 exactly where the segment is there, and has another type, or its payload or the values break the rules

pub quality_broken : (view : ViewName) (place : ℕ) (bytes : List ℕ) {before after : List ℕ} {a : Answer} → Answers (quality view place bytes) before after a
    → a.number ≡ bad_quality → BrokenReading quality_format view place bytes
quality_broken view place bytes h = PayloadBroken.reading_broken quality_format view place bytes h (omega arith)

pub broken_quality : (view : ViewName) (place : ℕ) (bytes : List ℕ) {before after : List ℕ} {a : Answer} → Answers (quality view place bytes) before after a
    → BrokenReading quality_format view place bytes → a.number ≡ bad_quality
broken_quality view place bytes = PayloadBroken.broken_reading quality_format view place bytes

pub setting_broken : (view : ViewName) (place : ℕ) (bytes : List ℕ) {before after : List ℕ} {a : Answer} (values : List ℕ)
    → Answers (set_quality view place values bytes) before after a → a.number ≡ bad_quality → BrokenSetting quality_format view place values bytes
setting_broken view place bytes values h = PayloadBroken.setting_broken quality_format view place bytes values h (omega arith)

pub broken_setting : (view : ViewName) (place : ℕ) (bytes : List ℕ) {before after : List ℕ} {a : Answer} (values : List ℕ)
    → Answers (set_quality view place values bytes) before after a → BrokenSetting quality_format view place values bytes → a.number ≡ bad_quality
broken_setting view place bytes values = PayloadBroken.broken_setting quality_format view place bytes values
