-- WHAT THE LIBRARY PROMISES, of every record, sheet and sequence of orders. Which numbers and places each call gives, and when it is
-- accepted, is promised in PromisesCalls beside it; what is promised of local quality, in PromisesQuality; of sweat pores, in
-- PromisesPores; of lists of pairs, in PromisesPairs; of work that is split, in PromisesSplit; of the card's object, in PromisesCard; of
-- runs of start coordinates, in PromisesRuns; of the enrolment rules, in PromisesRules. Each promise is a statement; its proof is one
-- citation. Every name in a statement leads to one definition, and all of these stand in specs/:
--   bits/specs/Choice, Lists, Bits, Bytes   within; All, Along; Bits; Byte
--   bits/specs/Codec           Codec.got, Codec.refused: what reading gives; enc, what is written
--   outcome/specs/Refusals, Placed   other_count, too_long, bad_sheet, bad_value; Placed
--   outcome/specs/Outcome      Outcome, refused, given, number_of, length_of, laid; AnswersAs, Answers, Gave
--   format/specs/Parts         Record, FitsList, up
--   format/specs/View, Places  view; view_at
--   format/specs/Named, Call   name_of; on_view
--   format/specs/Record        read, write, Allowed
--   sheet/specs/Sheet          read_sheet, reading, writing
--   trail/specs/Trail          nearest, Nearest, first_heading
--   segment/specs/Segment      segment_answer, payload, payload_of
--   orders/specs/Act, Least    Act, remove; least_width
--   orders/specs/Order         Order, Accepted, edited, order, holds
--   orders/specs/History       Call, now_holds, run
--   orders/specs/AnyCall       AnyCall, one, outcome_of, run_any, singles
--   orders/specs/Kept, Made    Kept; MadeAll
--   order_holds/specs/Held     held
--   rule/specs/Check           check_answer
--   promises/specs/Samples     table, expected, computed
-- `Answer`, `Held` and `ViewName` are structs of the code (outcome/src, order_holds/src, format/src), `length`, `take`, `T`, `eqb` and
-- the signs the toolchain's.
use mathlib.Core.Path.{◌≡◌}
use mathlib.Core.Logic.{◌≢◌, ◌⊎◌}
use Prim.Native.Nat.{ℕ, ◌-◌, ◌*◌, ◌%◌, ◌^◌, ◌≤◌, ◌<◌}
use mathlib.Core.Bool.{◌||◌}
use mathlib.Core.List.{List, [], ◌∷◌, ◌++◌, map}
use lib.ListN.{length, take}
use lib.Dec.{T, eqb}
use Rattle.bits.specs.Choice.{within}
use Rattle.bits.specs.Lists.{All, Along}
use Rattle.bits.specs.Bits.{Bits}
use Rattle.bits.specs.Bytes.{Byte}
use Rattle.bits.specs.Codec as Codec
use Rattle.outcome.specs.Refusals.{other_count, too_long, bad_sheet, bad_value}
use Rattle.outcome.specs.Placed.{Placed}
use Rattle.outcome.specs.Outcome.{Outcome, refused, given, number_of, length_of, laid, AnswersAs, Answers, Gave}
use Rattle.outcome.specs.declared.Answer.{Answer}
use Rattle.outcome.proofs.Laws as OutcomeLaws
use Rattle.format.specs.Parts.{Record, FitsList, up}
use Rattle.format.specs.View.{view}
use Rattle.format.specs.Record.{read, write, Allowed}
use Rattle.format.specs.Places.{view_at}
use Rattle.format.specs.Named.{name_of}
use Rattle.format.specs.Call.{on_view}
use Rattle.format.specs.declared.ViewName.{ViewName}
use Rattle.format.proofs.Laws.Record as RecordLaws
use Rattle.format.proofs.Laws.Refuses as RecordRefusals
use Rattle.format.proofs.Laws.Finger as FingerLaws
use Rattle.sheet.specs.Sheet.{read_sheet, reading, writing}
use Rattle.sheet.proofs.Laws.Calls as SheetCalls
use Rattle.sheet.proofs.Laws.BothWays as BothWays
use Rattle.sheet.proofs.Laws.Refuses as SheetRefusals
use Rattle.sheet_bytes.proofs.Laws.Room as SheetRoom
use Rattle.trail.specs.Trail.{nearest, Nearest, first_heading}
use Rattle.trail.proofs.Laws as TrailLaws
use Rattle.segment.specs.Segment.{payload, payload_of, segment_answer}
use Rattle.orders.specs.Least.{least_width}
use Rattle.orders.specs.Act.{Act, remove}
use Rattle.orders.specs.Order.{Order, edited, Accepted, order, holds}
use Rattle.orders.specs.History.{Call, now_holds, run}
use Rattle.orders.specs.AnyCall.{AnyCall, one, outcome_of, run_any, singles}
use Rattle.orders.specs.Kept.{Kept}
use Rattle.orders.specs.Made.{MadeAll}
use Rattle.orders.proofs.Laws.Least as LeastLaws
use Rattle.orders.proofs.Laws.Keep as KeepLaws
use Rattle.orders.proofs.Laws.Sequence as SequenceLaws
use Rattle.orders.proofs.Laws.AnyCalls as AnyLaws
use Rattle.orders.proofs.Laws.Calls as CallLaws
use Rattle.order_holds.specs.Held.{held}
use Rattle.order_holds.specs.declared.Held.{Held}
use Rattle.order_holds.proofs.Laws as HeldLaws
use Rattle.rule.specs.Check.{check_answer}
use Rattle.promises.specs.Samples.{expected, computed, table}
use Rattle.promises.proofs.Samples as ComputedSamples

-- ---- DEMAND 1: every run of bytes gets a result; bad input is refused by a fixed number; a refusal writes nothing
-- ("No number is given otherwise": the numbers of each call stand in PromisesCalls, and what their places show)

-- a record is refused by 1 to 12 and no other number, at a place that the number can have: how much is left there is said, at most all
pub record_refused : (bytes : List ℕ) (e left : ℕ) → read bytes ≡ Codec.refused e left
    → T (within 1 12 e) × (left ≤ 8 * length bytes) × Placed (8 * length bytes) e (8 * length bytes - left)
record_refused = RecordRefusals.read_refuses

-- a sheet is refused by 21, 22 or 19
pub sheet_refused : (sheet : List ℕ) (e left : ℕ) → read_sheet sheet ≡ Codec.refused e left → T (eqb e bad_sheet || eqb e bad_value || eqb e too_long)
sheet_refused = SheetRefusals.read_sheet_refuses

-- whatever a call is, an answer other than 0 leaves the lent buffer as it was, and a length of 0
pub refusal_writes_nothing : {A B : Type 0} {form : List A → List B} {lent : ℕ} {o : Outcome A} {before after : List B} {a : Answer}
    → AnswersAs form lent o before after a → a.number ≢ 0 → (after ≡ before) × (a.length ≡ 0)
refusal_writes_nothing = OutcomeLaws.refusal_writes_nothing

-- ---- DEMAND 2: reading accepts exactly the allowed records; sheet and record give each other back
-- (the same of the calls, where there is room: PromisesCalls)

pub accepted_is_allowed : (bytes : List ℕ) (r : Record) (rest : Bits) → All Byte bytes → read bytes ≡ Codec.got r rest → Allowed r × (bytes ≡ write r) × (rest ≡ [])
accepted_is_allowed = RecordLaws.read_back

pub allowed_is_accepted : (r : Record) → Allowed r → read (write r) ≡ Codec.got r []
allowed_is_accepted = RecordLaws.read_there

-- writing the sheet that reading gave gives the bytes back
pub write_after_read : (bytes sheet : List ℕ) → All Byte bytes → reading bytes ≡ given sheet → writing sheet ≡ given bytes
write_after_read = SheetCalls.write_after_read

-- reading the record that writing gave gives the sheet back
pub read_after_write : (sheet bytes : List ℕ) → All Byte sheet → writing sheet ≡ given bytes → reading bytes ≡ given sheet
read_after_write = SheetCalls.read_after_write

-- seven times a record's length is room for its sheet
pub sheet_room : (bytes sheet : List ℕ) → All Byte bytes → reading bytes ≡ given sheet → length sheet ≤ 7 * length bytes
sheet_room = SheetRoom.reading_room

-- the calls themselves, whose contracts `Answers (reading bytes)` and `Answers (writing sheet)` are: where the first answers 0, and
-- the second is lent what it wrote and room enough, the second gives back what the first was lent. Functions that make the two calls
-- one behind the other (src/) have that as their contracts (`RecordBack`, `SheetBack`).
pub record_back : {before after before₂ after₂ : List ℕ} {a b : Answer} (bytes : List ℕ) → All Byte bytes
    → Answers (reading bytes) before after a → a.number ≡ 0
    → Answers (writing (take a.length after)) before₂ after₂ b → length bytes ≤ length before₂ → Gave bytes after₂ b
record_back = BothWays.written_back

pub sheet_back : {before after before₂ after₂ : List ℕ} {a b : Answer} (sheet : List ℕ) → All Byte sheet
    → Answers (writing sheet) before after a → a.number ≡ 0
    → Answers (reading (take a.length after)) before₂ after₂ b → length sheet ≤ length before₂ → Gave sheet after₂ b
sheet_back = BothWays.read_back

-- ---- THE TRAIL: a line's first heading is the nearest, halves upwards, modulo 2N
-- (`trail` goes from there, code by code)

-- whichever whole number of headings is nearest to the start direction, the first heading is that number modulo 2N
pub first_heading_lem : (n b direction h : ℕ) → Nearest (direction * (2 * n)) (2 ^ b) h → first_heading n b direction ≡ h % (2 * n)
first_heading_lem = TrailLaws.first_nearest

-- and there is one
pub nearest_heading : (n b direction : ℕ) → Nearest (direction * (2 * n)) (2 ^ b) (nearest (direction * (2 * n)) (2 ^ b))
nearest_heading = TrailLaws.heading_near

-- ---- A VIEW BY FINGER: each call names a view by finger position and view number
-- (that 13 is given exactly where no view has the pair, of each call: PromisesCalls, PromisesQuality, PromisesPores, PromisesPairs)

-- in an accepted record that pair is unique
pub names_unique : (bytes : List ℕ) (r : Record) → read bytes ≡ Codec.got r [] → (i j : ℕ) → i < length r.views → j < length r.views
    → name_of (view_at r i) ≡ name_of (view_at r j) → i ≡ j
names_unique = FingerLaws.names_unique

-- so naming by finger is naming by place: a call that names the view at place i gives what its own definition, f, says of that place.
-- Every call on a view is of this form (`trailing`, `payload`, `quality`, `set_quality`, `pores`, `set_pores`, `order`, `pairs`), so that
-- each statement about a place is one about a name
pub by_finger : (bytes : List ℕ) (r : Record) → read bytes ≡ Codec.got r [] → {A : Type 0} (f : ℕ → Record → Outcome A) (i : ℕ) → i < length r.views
    → on_view (name_of (view_at r i)) f bytes ≡ f i r
by_finger = FingerLaws.by_finger

-- ---- DEMAND 3: orders
-- (that an order is refused for the numbered causes alone: PromisesCalls; that a list of pairs is its orders, given singly:
-- PromisesPairs; that two removals are one, and orders on two views may change places: PromisesSplit)

-- an accepted order, on the view at place i, leaves an allowed record
pub order_keeps : (o : Order) (i : ℕ) (r : Record) → Allowed r → Accepted o i r → Allowed (edited i o.act r)
order_keeps = KeepLaws.order_keeps

-- and every other view keeps its bits, whatever positions stand before it
pub others_keep_their_bits : (i : ℕ) (a : Act) (r : Record) (j : ℕ) (s t : List ℕ) → j ≢ i
    → (view (edited i a r).head.scale.widths s).enc (view_at (edited i a r) j) ≡ (view r.head.scale.widths t).enc (view_at r j)
others_keep_their_bits = KeepLaws.edited_bits

-- an edited view's width holds every count and difference (it is allowed), and no smaller one does
pub least_width_lem : (ls : List (List ℕ)) (u : ℕ) → 1 ≤ u → Along up (FitsList u) 0 ls → least_width ls ≤ u
least_width_lem = LeastLaws.least_least

-- a refused call changes nothing, for one order or for a list of pairs
pub refused_stays : (q : AnyCall) (bytes : List ℕ) → number_of (outcome_of q bytes) ≢ 0 → now_holds bytes (outcome_of q bytes) ≡ bytes
refused_stays = AnyLaws.refused_stays

-- THE SEQUENCE: from any accepted record, any orders, each result fed to the next: the bytes that hold at the end are those of an
-- allowed record with the header and as many views, and each view is what the accepted orders on it say, through all renumbering: each
-- line that is left has its neighbours and its pores. The orders on a view are those with its name, which no order touches.
-- In bytes: all stays but for the record length and, in a view with an accepted order, the skeleton and index blocks with their
-- lengths and, where lines were removed, the payloads of pores with theirs; so segments of local quality are carried along as they
-- stand, well formed or not, and joins and parts leave all segments as they are
pub orders_follow : (cs : List Call) (bytes : List ℕ) (r : Record) → All Byte bytes → read bytes ≡ Codec.got r [] → Kept cs r bytes (run cs bytes)
orders_follow = SequenceLaws.orders_follow

-- a sequence may hold lists of pairs, and says the same as the single orders in their place: those of the lists that are accepted
pub any_run : (qs : List AnyCall) (bytes : List ℕ) → run_any qs bytes ≡ run (singles qs bytes) bytes
any_run = AnyLaws.any_run

pub any_follow : (qs : List AnyCall) (bytes : List ℕ) (r : Record) → All Byte bytes → read bytes ≡ Codec.got r []
    → Kept (singles qs bytes) r bytes (run_any qs bytes)
any_follow = AnyLaws.any_follow

-- the calls themselves, whose contracts are `Answers (order o record)`, `Answers (pairs m record)` (ordering/src) and `holds`
-- (order_holds/src): made one behind the other, each lent the record that then holds, they come to the record of the sequence
pub calls_run : (qs : List AnyCall) (bytes last : List ℕ) → MadeAll qs bytes last → last ≡ run_any qs bytes
calls_run = CallLaws.calls_run

pub calls_follow : (qs : List AnyCall) (bytes last : List ℕ) (r : Record) → All Byte bytes → read bytes ≡ Codec.got r []
    → MadeAll qs bytes last → Kept (singles qs bytes) r bytes last
calls_follow = CallLaws.calls_follow

-- NEVER TWICE: after any calls a removal is accepted; after any further ones it comes again, whatever room is lent: 14
pub removal_again : (before : List AnyCall) (c : Call) (after : List AnyCall) (rs bytes : List ℕ) (r : Record) → All Byte bytes
    → read bytes ≡ Codec.got r [] → c.order.act ≡ remove rs → number_of (outcome_of (one c) (run_any before bytes)) ≡ 0
    → (n : ℕ) → outcome_of (one (record { order = c.order; lent = n })) (run_any (before ++ one c ∷ after) bytes) ≡ refused other_count 0
removal_again = AnyLaws.removal_again

-- THE REPEATED HOUR: a call for a removal answers 0; the same removal is called for again, on the record that then holds. It is
-- refused with 14, the second buffer is as it was, and the same record holds. A function that makes these calls (src/remove_twice)
-- has that as its contract (`OnlyOnce`); P3 and P4 of the samples are such a pair.
pub repeated_hour : (o : Order) {rs : List ℕ} → o.act ≡ remove rs → (bytes : List ℕ) → All Byte bytes
    → {before after : List ℕ} {a : Answer} → Answers (order o bytes) before after a → a.number ≡ 0
    → {before₂ after₂ : List ℕ} {b : Answer} → Answers (order o (holds bytes after a.number a.length)) before₂ after₂ b
    → (b ≡ record { number = other_count; place = 0; length = 0 }) × (after₂ ≡ before₂)
    × (holds (holds bytes after a.number a.length) after₂ b.number b.length ≡ holds bytes after a.number a.length)
repeated_hour = CallLaws.repeated

-- the record that now holds, found from the answer and the second buffer, is the one that the sequence goes on with
pub holds_now : (q : AnyCall) (bytes second : List ℕ)
    → holds bytes (laid second (outcome_of q bytes)) (number_of (outcome_of q bytes)) (length_of (outcome_of q bytes))
    ≡ now_holds bytes (outcome_of q bytes)
holds_now = AnyLaws.holds_now

-- for a host that takes numbers alone: whatever `which_holds` answers, whose contract is the equation with `held`
-- (order_holds/specs/Held), second is 1 and the record that holds is the second buffer's first bytes, `length` of them; or second is 0
-- and it is the whole old record, and `length` its length
pub held_holds : (old second : List ℕ) (number n : ℕ) (h : Held) → h ≡ held old second number n
    → ((h.second ≡ 1) × (h.length ≤ length second) × (holds old second number n ≡ take h.length second))
    ⊎ ((h.second ≡ 0) × (h.length ≡ length old) × (holds old second number n ≡ old))
held_holds = HeldLaws.held_holds

-- ---- UNIQUENESS: two answers that a statement allows are equal, and so are the buffers they leave

-- the calls that write: read, write, trail as numbers and as bytes, quality, set quality, pores, set pores, remove, join, part, pairs,
-- card read, card write, low bytes and back
pub one_answer : {A B : Type 0} {form : List A → List B} {lent : ℕ} {o : Outcome A} {before after₁ after₂ : List B} {a₁ a₂ : Answer}
    → AnswersAs form lent o before after₁ a₁ → AnswersAs form lent o before after₂ a₂ → (a₁ ≡ a₂) × (after₁ ≡ after₂)
one_answer = OutcomeLaws.one_answer

-- the calls whose statement is an equation: a segment's answer
pub one_segment : (view : ViewName) (place : ℕ) (bytes : List ℕ) {a b : Answer} → a ≡ segment_answer view place bytes → b ≡ segment_answer view place bytes → a ≡ b
one_segment view place bytes = OutcomeLaws.one_value

-- a check's answer
pub one_check : (rule : ℕ) (bytes : List ℕ) {a b : Answer} → a ≡ check_answer rule bytes → b ≡ check_answer rule bytes → a ≡ b
one_check rule bytes = OutcomeLaws.one_value

-- a segment's payload, a part handed back: its bytes are determined
pub one_payload : (view : ViewName) (place : ℕ) (bytes : List ℕ) {x y : List ℕ} → x ≡ payload_of (payload view place bytes) → y ≡ payload_of (payload view place bytes)
    → x ≡ y
one_payload view place bytes = OutcomeLaws.one_value

-- the record that now holds, a part handed back: its bytes are determined
pub one_record : (old second : List ℕ) (number n : ℕ) {x y : List ℕ} → x ≡ holds old second number n → y ≡ holds old second number n → x ≡ y
one_record old second number n = OutcomeLaws.one_value

-- the same in numbers
pub one_held : (old second : List ℕ) (number n : ℕ) {a b : Held} → a ≡ held old second number n → b ≡ held old second number n → a ≡ b
one_held old second number n = OutcomeLaws.one_value

-- ---- P1 TO P11

pub samples : map computed table ≡ map expected table
samples = ComputedSamples.samples
