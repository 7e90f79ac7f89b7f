-- WHAT THE LIBRARY PROMISES OF EACH CALL: the numbers that it gives, their places, and when it gives 0. An answer is any that the
-- call's contract allows, which the statement names (`Answers (reading bytes)`, ..). Promises is the front page; the calls of local
-- quality stand in PromisesQuality, those of sweat pores in PromisesPores, the call for a list of pairs in PromisesPairs, those of cards
-- and runs in PromisesCard and PromisesRuns, the check by a rule in PromisesRules. The names in statements stand in specs/:
--   outcome/specs/Numbers      Gives; read_numbers, write_numbers, trail_numbers, segment_numbers, removal_numbers, pair_numbers
--   outcome/specs/Refusals, Placed   no_view; Placed
--   outcome/specs/Outcome      number_of, AnswersAs, Answers
--   format/specs/Named         NoViewNamed
--   places/specs/Reach         reach, Agree, AnsweredAlike
--   sheet/specs/Sheet          reading, writing
--   sheet/specs/Accepted       AcceptedReading, AcceptedWriting
--   trail/specs/Trail          trailing
--   segment/specs/Segment      segment_answer
--   orders/specs/Act, Order    remove, join, part; Order, order
--   orders/specs/History       Call, outcome
--   orders/specs/Accept        AcceptedCall
--   bits/specs/Choice, Lists, Bytes   within; All; Byte
-- `Answer` is the struct of outcome/src, `ViewName` that of format/src, `length`, `T` and the signs are the toolchain's.
use mathlib.Core.Path.{◌≡◌}
use mathlib.Core.Logic.{◌≢◌}
use Prim.Native.Nat.{ℕ, ◌+◌, ◌*◌}
use mathlib.Core.List.{List}
use lib.ListN.{length}
use lib.Dec.{T}
use Rattle.bits.specs.Choice.{within}
use Rattle.bits.specs.Lists.{All}
use Rattle.bits.specs.Bytes.{Byte}
use Rattle.outcome.specs.Numbers.{Gives, read_numbers, write_numbers, trail_numbers, segment_numbers, removal_numbers, pair_numbers}
use Rattle.outcome.specs.Refusals.{no_view}
use Rattle.outcome.specs.Placed.{Placed}
use Rattle.outcome.specs.Outcome.{number_of, AnswersAs, Answers}
use Rattle.outcome.specs.declared.Answer.{Answer}
use Rattle.format.specs.Named.{NoViewNamed}
use Rattle.format.specs.declared.ViewName.{ViewName}
use Rattle.places.specs.Reach.{reach, Agree, AnsweredAlike}
use Rattle.sheet.specs.Sheet.{reading, writing}
use Rattle.sheet.specs.Accepted.{AcceptedReading, AcceptedWriting}
use Rattle.sheet.proofs.Laws.Numbers as SheetNumbers
use Rattle.trail.specs.Trail.{trailing}
use Rattle.trail.proofs.Numbers as TrailNumbers
use Rattle.segment.specs.Segment.{segment_answer}
use Rattle.segment.proofs.Numbers as SegmentNumbers
use Rattle.orders.specs.Act.{remove, join, part}
use Rattle.orders.specs.Order.{Order, order}
use Rattle.orders.specs.History.{Call, outcome}
use Rattle.orders.specs.Accept.{AcceptedCall}
use Rattle.orders.proofs.Laws.Numbers as OrderNumbers
use Rattle.orders.proofs.Laws.AcceptCall as AcceptCall
use Rattle.promises.proofs.Placed as Placing
use Rattle.promises.proofs.Decides as Decides
use Rattle.promises.proofs.Unnamed as Unnamed

-- ---- "No number is given otherwise": of each call, the numbers that its contract allows besides 0

pub read_numbers_lem : {before after : List ℕ} {a : Answer} (bytes : List ℕ) → Answers (reading bytes) before after a → Gives read_numbers a.number
read_numbers_lem = SheetNumbers.reading_numbers

pub write_numbers_lem : {before after : List ℕ} {a : Answer} (sheet : List ℕ) → Answers (writing sheet) before after a → Gives write_numbers a.number
write_numbers_lem = SheetNumbers.writing_numbers

-- as 16-bit numbers or as bytes
pub trail_numbers_lem : {B : Type 0} {form : List ℕ → List B} {lent : ℕ} {before after : List B} {a : Answer} (view : ViewName) (line : ℕ) (bytes : List ℕ)
    → AnswersAs form lent (trailing view line bytes) before after a → Gives trail_numbers a.number
trail_numbers_lem = TrailNumbers.trailing_numbers

pub segment_numbers_lem : {a : Answer} (view : ViewName) (place : ℕ) (bytes : List ℕ) → a ≡ segment_answer view place bytes → Gives segment_numbers a.number
segment_numbers_lem = SegmentNumbers.segment_numbers_lem

pub removal_numbers_lem : (o : Order) (bytes : List ℕ) {before after : List ℕ} {a : Answer} → Answers (order o bytes) before after a
    → {rs : List ℕ} → o.act ≡ remove rs → Gives removal_numbers a.number
removal_numbers_lem = OrderNumbers.removal_numbers_lem

pub join_numbers : (o : Order) (bytes : List ℕ) {before after : List ℕ} {a : Answer} → Answers (order o bytes) before after a
    → {p q : ℕ} → o.act ≡ join p q → Gives pair_numbers a.number
join_numbers = OrderNumbers.join_numbers

pub part_numbers : (o : Order) (bytes : List ℕ) {before after : List ℕ} {a : Answer} → Answers (order o bytes) before after a
    → {p q : ℕ} → o.act ≡ part p q → Gives pair_numbers a.number
part_numbers = OrderNumbers.part_numbers

-- ---- SAY WHERE: the place is 0 unless the number is 2 to 12, and then lies within the record's bits or at their end

pub read_place : {before after : List ℕ} {a : Answer} (bytes : List ℕ) → Answers (reading bytes) before after a
    → Placed (8 * length bytes) a.number a.place
read_place = Placing.read_place

pub trail_place : {B : Type 0} {form : List ℕ → List B} {lent : ℕ} {before after : List B} {a : Answer} (view : ViewName) (line : ℕ) (bytes : List ℕ)
    → AnswersAs form lent (trailing view line bytes) before after a → Placed (8 * length bytes) a.number a.place
trail_place = Placing.trail_place

-- an accepted one has its payload's first bit there (segment_answer)
pub segment_place : {a : Answer} (view : ViewName) (place : ℕ) (bytes : List ℕ) → a ≡ segment_answer view place bytes → a.number ≢ 0
    → Placed (8 * length bytes) a.number a.place
segment_place = Placing.segment_place

pub order_place : (o : Order) (bytes : List ℕ) {before after : List ℕ} {a : Answer} → Answers (order o bytes) before after a
    → Placed (8 * length bytes) a.number a.place
order_place = Placing.order_place

-- a sheet has no places
pub write_place : {before after : List ℕ} {a : Answer} (sheet : List ℕ) → Answers (writing sheet) before after a → a.place ≡ 0
write_place = Placing.write_place

-- What decides such a refusal stands before its place, and in the bits from there on that its number goes by (`reach`): two runs of
-- bytes that are as long and agree so far are answered alike, by every call on a record. `AnsweredAlike`: the same number and the same
-- place; but where 10 is given for the eighth leftover bit, a later one that is 1 may be the other's place.

pub read_decided : (a b : List ℕ) {before after before₂ after₂ : List ℕ} {x y : Answer} → Answers (reading a) before after x
    → Answers (reading b) before₂ after₂ y → T (within 2 12 x.number) → Agree (x.place + reach x.number) a b → AnsweredAlike x y
read_decided = Decides.read_decided

pub trail_decided : {B : Type 0} {form : List ℕ → List B} {lent lent₂ : ℕ} {before after before₂ after₂ : List B} {x y : Answer}
    (view : ViewName) (line : ℕ) (a b : List ℕ) → AnswersAs form lent (trailing view line a) before after x
    → AnswersAs form lent₂ (trailing view line b) before₂ after₂ y → T (within 2 12 x.number) → Agree (x.place + reach x.number) a b
    → AnsweredAlike x y
trail_decided = Decides.trail_decided

pub segment_decided : (view : ViewName) (place : ℕ) (a b : List ℕ) {x y : Answer} → x ≡ segment_answer view place a → y ≡ segment_answer view place b
    → T (within 2 12 x.number) → Agree (x.place + reach x.number) a b → AnsweredAlike x y
segment_decided = Decides.segment_decided

pub order_decided : (o : Order) (a b : List ℕ) {before after before₂ after₂ : List ℕ} {x y : Answer} → Answers (order o a) before after x
    → Answers (order o b) before₂ after₂ y → T (within 2 12 x.number) → Agree (x.place + reach x.number) a b → AnsweredAlike x y
order_decided = Decides.order_decided

-- ---- 13, exactly where the bytes read as a record of which no view has that finger position and view number

pub trail_unnamed : {B : Type 0} {form : List ℕ → List B} {lent : ℕ} {before after : List B} {a : Answer} (view : ViewName) (line : ℕ) (bytes : List ℕ)
    → AnswersAs form lent (trailing view line bytes) before after a
    → (a.number ≡ no_view → NoViewNamed view bytes) × (NoViewNamed view bytes → a.number ≡ no_view)
trail_unnamed = Unnamed.trail_unnamed

pub segment_unnamed : {a : Answer} (view : ViewName) (place : ℕ) (bytes : List ℕ) → a ≡ segment_answer view place bytes
    → (a.number ≡ no_view → NoViewNamed view bytes) × (NoViewNamed view bytes → a.number ≡ no_view)
segment_unnamed = Unnamed.segment_answer_unnamed

pub order_unnamed : (o : Order) (bytes : List ℕ) {before after : List ℕ} {a : Answer} → Answers (order o bytes) before after a
    → (a.number ≡ no_view → NoViewNamed o.view bytes) × (NoViewNamed o.view bytes → a.number ≡ no_view)
order_unnamed = Unnamed.order_unnamed

-- ---- reading and writing: the number is 0 exactly where the bytes, or the sheet, are an allowed record's and there is room

pub read_accepted : {before after : List ℕ} {a : Answer} (bytes : List ℕ) → All Byte bytes → Answers (reading bytes) before after a
    → a.number ≡ 0 → AcceptedReading bytes (length before)
read_accepted = SheetNumbers.reading_accepted

pub accepted_read : {before after : List ℕ} {a : Answer} (bytes : List ℕ) → Answers (reading bytes) before after a
    → AcceptedReading bytes (length before) → a.number ≡ 0
accepted_read = SheetNumbers.accepted_reading

pub write_accepted : {before after : List ℕ} {a : Answer} (sheet : List ℕ) → All Byte sheet → Answers (writing sheet) before after a
    → a.number ≡ 0 → AcceptedWriting sheet (length before)
write_accepted = SheetNumbers.writing_accepted

pub accepted_write : {before after : List ℕ} {a : Answer} (sheet : List ℕ) → Answers (writing sheet) before after a
    → AcceptedWriting sheet (length before) → a.number ≡ 0
accepted_write = SheetNumbers.accepted_writing

-- ---- orders

-- an order's number is 0 exactly where the bytes read as a record, its view is there and has the count, its own tests pass, the new
-- record is at most 32,768 bytes, and it fits the second buffer: of its outcome in a sequence
pub order_accepted : (c : Call) (bytes : List ℕ) → number_of (outcome c bytes) ≡ 0 → AcceptedCall c bytes
order_accepted = AcceptCall.outcome_accepted

pub accepted_order : (c : Call) (bytes : List ℕ) → AcceptedCall c bytes → number_of (outcome c bytes) ≡ 0
accepted_order = AcceptCall.accepted_outcome

-- and of any answer by the contract of its call
pub call_accepted : (o : Order) (bytes : List ℕ) {before after : List ℕ} {a : Answer} → Answers (order o bytes) before after a
    → a.number ≡ 0 → AcceptedCall (record { order = o; lent = length before }) bytes
call_accepted = AcceptCall.call_accepted

pub accepted_call : (o : Order) (bytes : List ℕ) {before after : List ℕ} {a : Answer} → Answers (order o bytes) before after a
    → AcceptedCall (record { order = o; lent = length before }) bytes → a.number ≡ 0
accepted_call = AcceptCall.accepted_call
