-- WHAT THE LIBRARY PROMISES OF THE ENROLMENT RULES: the check of a record by a rule. Every statement is of any rule: its number is a
-- parameter, and what it wants is a row of one table. Promises is the front page. The names in statements stand in specs/:
--   bits/specs/Choice, Codec   within; got
--   outcome/specs/Refusals, Numbers, Placed   no_room, no_rule, below_rule; Gives, check_numbers; Placed
--   outcome/specs/Outcome      Answers
--   format/specs/Record        Record, read
--   places/specs/Reach         reach, Agree, AnsweredAlike
--   sheet/specs/Sheet          reading
--   orders/specs/AnyCall, Made   AnyCall, run_any; MadeAll
--   rule/specs/Rules           least_of: the table of the rules
--   rule/specs/Check           check, check_answer
--   rule/specs/Accepted        AcceptedCheck, BelowRule, NoRule
-- `Answer` is the struct of outcome/src, `length`, `T` and the signs are the toolchain's. That the contract of the call allows one answer
-- alone is said on the front page (`one_check`). The call is lent nothing to write to.
use mathlib.Core.Path.{◌≡◌}
use mathlib.Core.Logic.{◌≢◌}
use Prim.Native.Nat.{ℕ, ◌+◌, ◌*◌, ◌≤◌}
use mathlib.Core.Option.{some}
use mathlib.Core.List.{List, []}
use lib.ListN.{length}
use lib.Dec.{T}
use Rattle.bits.specs.Choice.{within}
use Rattle.bits.specs.Codec.{got}
use Rattle.outcome.specs.Refusals.{no_room, no_rule, below_rule}
use Rattle.outcome.specs.Numbers.{Gives, check_numbers}
use Rattle.outcome.specs.Placed.{Placed}
use Rattle.outcome.specs.Outcome.{Answers}
use Rattle.outcome.specs.declared.Answer.{Answer}
use Rattle.format.specs.Record.{Record, read}
use Rattle.places.specs.Reach.{reach, Agree, AnsweredAlike}
use Rattle.sheet.specs.Sheet.{reading}
use Rattle.orders.specs.AnyCall.{AnyCall, run_any}
use Rattle.orders.specs.Made.{MadeAll}
use Rattle.rule.specs.Rules.{least_of}
use Rattle.rule.specs.Check.{check, check_answer}
use Rattle.rule.specs.Accepted.{AcceptedCheck, BelowRule, NoRule}
use Rattle.rule.proofs.Laws.Accept as Accept
use Rattle.promises.proofs.Checked as Checked

-- ---- RULE AND RULE: what passes a rule passes each that wants no more

pub stricter : (m n : ℕ) {least more : ℕ} → least_of m ≡ some least → least_of n ≡ some more → least ≤ more → (bytes : List ℕ) {a b : Answer}
    → a ≡ check_answer n bytes → a.number ≡ 0 → b ≡ check_answer m bytes → b.number ≡ 0
stricter = Accept.stricter

-- of the table as it is: each with a lower number
pub earlier : (m n : ℕ) {least : ℕ} → least_of m ≡ some least → m ≤ n → (bytes : List ℕ) {a b : Answer}
    → a ≡ check_answer n bytes → a.number ≡ 0 → b ≡ check_answer m bytes → b.number ≡ 0
earlier = Accept.earlier

-- whatever passes rule 2 passes rule 1
pub second_first : (bytes : List ℕ) {a b : Answer} → a ≡ check_answer 2 bytes → a.number ≡ 0 → b ≡ check_answer 1 bytes → b.number ≡ 0
second_first = Accept.second_first

-- ---- RULE AND READING: rule 1 accepts exactly what reading accepts

pub first_accepted : (bytes : List ℕ) {a : Answer} → a ≡ check_answer 1 bytes
    → (a.number ≡ 0 → (r : Record) × (read bytes ≡ got r [])) × ((r : Record) → read bytes ≡ got r [] → a.number ≡ 0)
first_accepted = Accept.first_accepted

-- it has the number and the place of reading, where that has the room
pub first_reading : (bytes : List ℕ) {before after : List ℕ} {b : Answer} → Answers (reading bytes) before after b → {a : Answer} → a ≡ check_answer 1 bytes
    → b.number ≢ no_room → (a.number ≡ b.number) × (a.place ≡ b.place)
first_reading = Checked.first_reading

-- and every rule has both where reading refuses the record
pub check_reading : (bytes : List ℕ) {before after : List ℕ} {b : Answer} → Answers (reading bytes) before after b → (rule : ℕ) {least : ℕ}
    → least_of rule ≡ some least → {a : Answer} → a ≡ check_answer rule bytes → T (within 1 12 b.number) → (a.number ≡ b.number) × (a.place ≡ b.place)
check_reading = Checked.check_reading

-- ---- RULE AND ORDERS: no order changes what a record passes

-- any calls for orders and lists of pairs, on any bytes
pub orders_keep : (rule : ℕ) (qs : List AnyCall) (bytes : List ℕ) → check rule (run_any qs bytes) ≡ check rule bytes
orders_keep = Checked.orders_keep

-- the calls themselves, made one behind the other, each lent the record that then holds
pub calls_keep : (rule : ℕ) (qs : List AnyCall) (bytes last : List ℕ) → MadeAll qs bytes last → check_answer rule last ≡ check_answer rule bytes
calls_keep = Checked.calls_keep

-- ---- NUMBERS AND PLACES: 0, 1 to 12, 30 and 31, of which 2 to 12 have a place; nothing is written

pub check_numbers_lem : {a : Answer} (rule : ℕ) (bytes : List ℕ) → a ≡ check_answer rule bytes → Gives check_numbers a.number
check_numbers_lem = Accept.check_numbers_lem

pub check_place : {a : Answer} (rule : ℕ) (bytes : List ℕ) → a ≡ check_answer rule bytes → Placed (8 * length bytes) a.number a.place
check_place = Accept.check_place

pub check_length : {a : Answer} (rule : ℕ) (bytes : List ℕ) → a ≡ check_answer rule bytes → a.length ≡ 0
check_length = Accept.check_length

pub check_decided : (rule : ℕ) (a b : List ℕ) {x y : Answer} → x ≡ check_answer rule a → y ≡ check_answer rule b
    → T (within 2 12 x.number) → Agree (x.place + reach x.number) a b → AnsweredAlike x y
check_decided = Checked.check_decided

-- ---- ACCEPTED: 0 exactly where there is such a rule, and the bytes read as a record with as many bits of a direction as it wants

pub check_accepted : {a : Answer} (rule : ℕ) (bytes : List ℕ) → a ≡ check_answer rule bytes → a.number ≡ 0 → AcceptedCheck rule bytes
check_accepted = Accept.check_accepted

pub accepted_check : {a : Answer} (rule : ℕ) (bytes : List ℕ) → a ≡ check_answer rule bytes → AcceptedCheck rule bytes → a.number ≡ 0
accepted_check = Accept.accepted_check

-- ---- REFUSED: 31 exactly where the record has fewer; 30 exactly where no rule has the number, whatever the bytes are

pub check_below : {a : Answer} (rule : ℕ) (bytes : List ℕ) → a ≡ check_answer rule bytes → a.number ≡ below_rule → BelowRule rule bytes
check_below = Accept.check_below

pub below_check : {a : Answer} (rule : ℕ) (bytes : List ℕ) → a ≡ check_answer rule bytes → BelowRule rule bytes → a.number ≡ below_rule
below_check = Accept.below_check

pub check_unknown : {a : Answer} (rule : ℕ) (bytes : List ℕ) → a ≡ check_answer rule bytes → a.number ≡ no_rule → NoRule rule
check_unknown = Accept.check_unknown

pub unknown_check : {a : Answer} (rule : ℕ) (bytes : List ℕ) → a ≡ check_answer rule bytes → NoRule rule → a.number ≡ no_rule
unknown_check = Accept.unknown_check
