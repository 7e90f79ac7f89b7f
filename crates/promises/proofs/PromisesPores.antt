-- WHAT THE LIBRARY PROMISES OF SWEAT PORES, the payload of a view's segments of type 0x0004: reading its distances, rewriting a payload
-- from distances, and what a removal keeps of it. Promises is the front page. The names in statements stand in specs/:
--   bits/specs/Choice, Lists, Bytes, Codec   within; All; Byte; got
--   put_bytes/specs/HighFirst  four, joined
--   outcome/specs/Refusals, Numbers, Placed  no_view, bad_pores; Gives, pores_numbers, set_pores_numbers; Placed
--   outcome/specs/Outcome      given, Answers, AnswersInFours, Gave, GaveAs
--   format/specs/Record        Record, read
--   format/specs/Places, Named  count, view_at; NoViewNamed, Means
--   rewrite/specs/Bytes, Format  Rewrites; what a format of payloads is
--   rewrite/specs/Called, Accepted  the two calls on payloads of a format; AcceptedReading, AcceptedSetting, BrokenReading, BrokenSetting
--   pores_parts/specs/Parts    Pores, FitsPores
--   pores/specs/Payload        pores_in, payload_of
--   pores/specs/Numbers, Calls  numbers_of, pores_from; pores_format, pores, set_pores
--   pores/specs/Keep           distances_at, keep
--   orders/specs/Survive, Act, Order  at, survivors; remove; Order, order
--   orders/specs/History, Kept  Call, run; history_of
--   places/specs/Reach         reach, Agree, AnsweredAlike
-- `Answer` is the struct of outcome/src, `ViewName` that of format/src, `length`, `take`, `get_or`, `T` and the signs are the toolchain's.
-- That a refusal writes nothing, and that the contracts allow one answer and one buffer alone, is said of every call on the front page
-- (`refusal_writes_nothing`, `one_answer`).
use mathlib.Core.Path.{◌≡◌}
use Prim.Native.Nat.{ℕ, ◌+◌, ◌*◌, ◌/◌, ◌^◌, ◌≤◌, ◌<◌}
use native.Mathlib.Omega.{arith}
use mathlib.Core.Option.{some}
use mathlib.Core.List.{List, []}
use lib.ListN.{length, take, drop}
use lib.Dec.{T}
use Rattle.bits.specs.Choice.{within}
use Rattle.bits.specs.Lists.{All}
use Rattle.bits.specs.Bytes.{Byte}
use Rattle.bits.specs.Codec.{got}
use Rattle.put_bytes.specs.HighFirst.{four, joined}
use Rattle.outcome.specs.Refusals.{no_view, bad_pores}
use Rattle.outcome.specs.Numbers.{Gives, pores_numbers, set_pores_numbers}
use Rattle.outcome.specs.Placed.{Placed}
use Rattle.outcome.specs.Outcome.{given, Answers, AnswersInFours, Gave}
use Rattle.outcome.specs.declared.Answer.{Answer}
use Rattle.format.specs.Record.{Record, read}
use Rattle.format.specs.Places.{count, view_at}
use Rattle.format.specs.Named.{NoViewNamed, Means}
use Rattle.format.specs.declared.ViewName.{ViewName}
use Rattle.rewrite.specs.Bytes.{Rewrites}
use Rattle.rewrite.specs.Accepted.{AcceptedReading, AcceptedSetting, BrokenReading, BrokenSetting}
use Rattle.rewrite.proofs.Laws.Payload as Payload
use Rattle.rewrite.proofs.Laws.PayloadNumbers as PayloadNumbers
use Rattle.rewrite.proofs.Laws.PayloadAccept as PayloadAccept
use Rattle.rewrite.proofs.Laws.PayloadBroken as PayloadBroken
use Rattle.pores_parts.specs.Parts.{Pores, FitsPores}
use Rattle.pores.specs.Payload.{pores_in, payload_of}
use Rattle.pores.specs.PayloadLaws as PayloadLaws
use Rattle.pores.specs.Numbers.{numbers_of, pores_from}
use Rattle.pores.specs.NumbersLaws as NumbersLaws
use Rattle.pores.specs.Keep.{distances_at, keep}
use Rattle.pores.specs.Calls.{pores_format, pores, set_pores}
use Rattle.pores.proofs.Laws.Keep as KeepLaws
use Rattle.pores.proofs.Laws.Room as Room
use Rattle.pores.proofs.Laws.Calls as PoresCalls
use Rattle.orders.specs.Survive.{at, survivors}
use Rattle.orders.specs.Act.{remove}
use Rattle.orders.specs.Order.{Order, order}
use Rattle.orders.specs.History.{Call, run}
use Rattle.orders.specs.Kept.{history_of}
use Rattle.orders.proofs.Laws.PoresFollow as Follow
use Rattle.places.specs.Reach.{reach, Agree, AnsweredAlike}
use Rattle.promises.proofs.Placed as Placing
use Rattle.promises.proofs.Decides as Decides
use Rattle.promises.proofs.Unnamed as Unnamed

-- ---- THE FORMAT: a payload and its pores give each other back, in a view of n lines, and so do the host's bytes and pores

pub payload_read : (n : ℕ) (p : Pores) → FitsPores n p → pores_in n (payload_of p) ≡ some p
payload_read = PayloadLaws.payload_read

pub payload_written : (n : ℕ) (payload : List ℕ) (p : Pores) → All Byte payload → pores_in n payload ≡ some p → FitsPores n p × (payload ≡ payload_of p)
payload_written = PayloadLaws.payload_written

-- "one payload for given distances", in whatever views
pub only_payload : (n m : ℕ) (a b : List ℕ) (p : Pores) → All Byte a → All Byte b → pores_in n a ≡ some p → pores_in m b ≡ some p → a ≡ b
only_payload = PayloadLaws.only_payload

pub values_read : (n : ℕ) (p : Pores) → FitsPores n p → pores_from n (joined four (numbers_of p)) ≡ some p
values_read = NumbersLaws.bytes_read

pub values_written : (n : ℕ) (values : List ℕ) (p : Pores) → All Byte values → pores_from n values ≡ some p → FitsPores n p × (values ≡ joined four (numbers_of p))
values_written = NumbersLaws.bytes_written

-- ---- READING AND REWRITING

-- rewriting what was read gives the record back
pub set_after_read : (view : ViewName) (place : ℕ) (numbers bytes : List ℕ) → All Byte bytes → pores view place bytes ≡ given numbers
    → set_pores view place (joined four numbers) bytes ≡ given bytes
set_after_read = Payload.set_after_read pores_format

-- reading what was rewritten gives the numbers
pub read_after_set : (view : ViewName) (place : ℕ) (values bytes new : List ℕ) → All Byte values → set_pores view place values bytes ≡ given new
    → (numbers : List ℕ) × (values ≡ joined four numbers) × (pores view place new ≡ given numbers)
read_after_set = PoresCalls.read_after_set

-- what is rewritten is an allowed record, and all of it but the payload, its segment's length, the extended length and the record
-- length keeps its bytes
pub set_rewrites : {P : Type 0} (view : ViewName) (place : ℕ) (values bytes new : List ℕ) → All Byte bytes → set_pores view place values bytes ≡ given new
    → ((r : Record) (i : ℕ) (p : Pores) → read bytes ≡ got r [] → Means view r i → pores_from (count (view_at r i)) values ≡ some p
    → Rewrites i place (payload_of p) r bytes new → P) → P
set_rewrites = Payload.set_rewrites pores_format

-- the calls themselves: where the first answers 0, and the second is lent what it wrote and room enough, the second gives back what
-- the first was lent
pub pores_back : (view : ViewName) (place : ℕ) {before after before₂ after₂ : List ℕ} {a b : Answer} (bytes : List ℕ) → All Byte bytes
    → AnswersInFours (pores view place bytes) before after a → a.number ≡ 0
    → Answers (set_pores view place (take (4 * a.length) after) bytes) before₂ after₂ b → length bytes ≤ length before₂ → Gave bytes after₂ b
pores_back = PoresCalls.pores_back

pub setting_back : (view : ViewName) (place : ℕ) (values bytes : List ℕ) {before after before₂ after₂ : List ℕ} {a b : Answer} → All Byte values
    → Answers (set_pores view place values bytes) before after a → a.number ≡ 0
    → AnswersInFours (pores view place (take a.length after)) before₂ after₂ b → length values ≤ length before₂
    → (b.number ≡ 0) × (4 * b.length ≡ length values) × (take (4 * b.length) after₂ ≡ values)
setting_back = PoresCalls.setting_back

-- sixteen times a record's length is room for the numbers, four bytes each, and each number has 32 bits
pub pores_room : (view : ViewName) (place : ℕ) (bytes numbers : List ℕ) → pores view place bytes ≡ given numbers
    → (length numbers ≤ 4 * length bytes) × All (λ x. x < 2 ^ 32) numbers
pores_room = Room.pores_room

-- ---- REMOVAL: surviving lines keep their pores. `keep ks p` are the pores of the lines with the old numbers ks: line q of them has the
-- distances that line `at ks q` had

pub keeps_distances : (ks : List ℕ) (p : Pores) (q : ℕ) → q < length ks → distances_at (keep ks p) q ≡ distances_at p (at ks q)
keeps_distances = KeepLaws.keep_at

-- removing lines and then reading pores gives the survivors' pores
pub removal_pores : {P : Type 0} (o : Order) (lines bytes : List ℕ) (place : ℕ) (numbers new : List ℕ) → o.act ≡ remove lines → order o bytes ≡ given new
    → pores o.view place bytes ≡ given numbers
    → ((r : Record) (i : ℕ) (p : Pores) → read bytes ≡ got r [] → Means o.view r i → numbers ≡ numbers_of p
    → pores o.view place new ≡ given (numbers_of (keep (survivors (count (view_at r i)) lines) p)) → P) → P
removal_pores = Follow.removal_pores

-- and so does reading them behind any sequence of orders, whatever is renumbered: `left` of the view's history are its lines that are left,
-- by their numbers at the start
pub pores_follow : {P : Type 0} (cs : List Call) (view : ViewName) (place : ℕ) (bytes numbers : List ℕ) → All Byte bytes → pores view place bytes ≡ given numbers
    → ((r : Record) (i : ℕ) (p : Pores) → read bytes ≡ got r [] → Means view r i → numbers ≡ numbers_of p
    → pores view place (run cs bytes) ≡ given (numbers_of (keep (history_of i cs r bytes).left p)) → P) → P
pores_follow = Follow.pores_follow

-- ---- NUMBERS AND PLACES

pub pores_numbers_lem : {before after : List ℕ} {a : Answer} (view : ViewName) (place : ℕ) (bytes : List ℕ) → AnswersInFours (pores view place bytes) before after a
    → Gives pores_numbers a.number
pores_numbers_lem view place bytes = PayloadNumbers.reading_numbers pores_format (drop 1 pores_numbers) tt tt tt view place bytes

pub setting_numbers : {before after : List ℕ} {a : Answer} (view : ViewName) (place : ℕ) (values bytes : List ℕ)
    → Answers (set_pores view place values bytes) before after a → Gives set_pores_numbers a.number
setting_numbers view place values bytes = PayloadNumbers.setting_numbers pores_format (drop 1 set_pores_numbers) tt tt tt view place tt values bytes

pub pores_place : {before after : List ℕ} {a : Answer} (view : ViewName) (place : ℕ) (bytes : List ℕ) → AnswersInFours (pores view place bytes) before after a
    → Placed (8 * length bytes) a.number a.place
pores_place view place bytes = Placing.payload_place pores_format view place bytes

pub setting_place : {before after : List ℕ} {a : Answer} (view : ViewName) (place : ℕ) (values bytes : List ℕ)
    → Answers (set_pores view place values bytes) before after a → Placed (8 * length bytes) a.number a.place
setting_place view place values bytes = Placing.setting_place pores_format view place values bytes

pub pores_decided : (view : ViewName) (place : ℕ) (a b : List ℕ) {before after before₂ after₂ : List ℕ} {x y : Answer} → AnswersInFours (pores view place a) before after x
    → AnswersInFours (pores view place b) before₂ after₂ y → T (within 2 12 x.number) → Agree (x.place + reach x.number) a b → AnsweredAlike x y
pores_decided view place a b = Decides.payload_decided pores_format (omega arith) view place a b

pub setting_decided : (view : ViewName) (place : ℕ) (values a b : List ℕ) {before after before₂ after₂ : List ℕ} {x y : Answer}
    → Answers (set_pores view place values a) before after x → Answers (set_pores view place values b) before₂ after₂ y → T (within 2 12 x.number)
    → Agree (x.place + reach x.number) a b → AnsweredAlike x y
setting_decided view place values a b = Decides.setting_decided pores_format (omega arith) view place values a b

-- ---- ACCEPTED: 0 exactly where the segment is there and of this type, its payload or the values are right, and there is room

pub pores_accepted : (view : ViewName) (place : ℕ) (bytes : List ℕ) {before after : List ℕ} {a : Answer} → AnswersInFours (pores view place bytes) before after a
    → a.number ≡ 0 → AcceptedReading pores_format view place bytes (length before / 4)
pores_accepted view place bytes h = PayloadAccept.reading_accepted pores_format view place bytes h (omega arith)

pub accepted_pores : (view : ViewName) (place : ℕ) (bytes : List ℕ) {before after : List ℕ} {a : Answer} → AnswersInFours (pores view place bytes) before after a
    → AcceptedReading pores_format view place bytes (length before / 4) → a.number ≡ 0
accepted_pores view place bytes = PayloadAccept.accepted_reading pores_format view place bytes

pub setting_accepted : (view : ViewName) (place : ℕ) (bytes : List ℕ) {before after : List ℕ} {a : Answer} (values : List ℕ)
    → Answers (set_pores view place values bytes) before after a → a.number ≡ 0 → AcceptedSetting pores_format view place values bytes (length before)
setting_accepted view place bytes values h = PayloadAccept.setting_accepted pores_format view place bytes values h (omega arith)

pub accepted_setting : (view : ViewName) (place : ℕ) (bytes : List ℕ) {before after : List ℕ} {a : Answer} (values : List ℕ)
    → Answers (set_pores view place values bytes) before after a → AcceptedSetting pores_format view place values bytes (length before) → a.number ≡ 0
accepted_setting view place bytes values = PayloadAccept.accepted_setting pores_format view place bytes values

-- ---- UNNAMED: 13 exactly where the bytes read as a record of which no view has that finger position and view number

pub pores_unnamed : (view : ViewName) (place : ℕ) (bytes : List ℕ) {before after : List ℕ} {a : Answer}
    → AnswersInFours (pores view place bytes) before after a
    → (a.number ≡ no_view → NoViewNamed view bytes) × (NoViewNamed view bytes → a.number ≡ no_view)
pores_unnamed view place bytes = Unnamed.payload_unnamed pores_format (omega arith) view place bytes

pub setting_unnamed : (view : ViewName) (place : ℕ) (values bytes : List ℕ) {before after : List ℕ} {a : Answer}
    → Answers (set_pores view place values bytes) before after a
    → (a.number ≡ no_view → NoViewNamed view bytes) × (NoViewNamed view bytes → a.number ≡ no_view)
setting_unnamed view place values bytes = Unnamed.setting_unnamed pores_format (omega arith) view place values bytes

-- ---- BROKEN: 26 exactly where the segment is there, and has another type, or its payload or the values break the rules

pub pores_broken : (view : ViewName) (place : ℕ) (bytes : List ℕ) {before after : List ℕ} {a : Answer} → AnswersInFours (pores view place bytes) before after a
    → a.number ≡ bad_pores → BrokenReading pores_format view place bytes
pores_broken view place bytes h = PayloadBroken.reading_broken pores_format view place bytes h (omega arith)

pub broken_pores : (view : ViewName) (place : ℕ) (bytes : List ℕ) {before after : List ℕ} {a : Answer} → AnswersInFours (pores view place bytes) before after a
    → BrokenReading pores_format view place bytes → a.number ≡ bad_pores
broken_pores view place bytes = PayloadBroken.broken_reading pores_format view place bytes

pub setting_broken : (view : ViewName) (place : ℕ) (bytes : List ℕ) {before after : List ℕ} {a : Answer} (values : List ℕ)
    → Answers (set_pores view place values bytes) before after a → a.number ≡ bad_pores → BrokenSetting pores_format view place values bytes
setting_broken view place bytes values h = PayloadBroken.setting_broken pores_format view place bytes values h (omega arith)

pub broken_setting : (view : ViewName) (place : ℕ) (bytes : List ℕ) {before after : List ℕ} {a : Answer} (values : List ℕ)
    → Answers (set_pores view place values bytes) before after a → BrokenSetting pores_format view place values bytes → a.number ≡ bad_pores
broken_setting view place bytes values = PayloadBroken.broken_setting pores_format view place bytes values
