-- WHAT THE LIBRARY PROMISES OF RUNS OF START COORDINATES (clause 8.4): a run to its low bytes, and low bytes back to a run. Promises is the
-- front page; the card's object stands in PromisesCard. The names in statements stand in specs/:
--   bits/specs/Lists, Bytes    All; Byte
--   put_bytes/specs/HighFirst  two, joined, numbers_in
--   outcome/specs/Refusals, Numbers   bad_run; Gives, run_numbers
--   outcome/specs/Outcome      given, Answers, AnswersInBytes, Gave
--   card_runs/specs/Runs       run_ok, low_bytes, run_of, from_low_bytes
--   card_runs/specs/Accepted   SmallSteps, RightRun, AcceptedLow, back_at, AcceptedBack, PassesOver
-- `Answer` is the struct of outcome/src, `length`, `get_or`, `take`, `T` and the signs are the toolchain's. That a refusal writes nothing, and
-- that the contracts allow one answer and one buffer alone, is said of every call on the front page (`refusal_writes_nothing`,
-- `one_answer`). The clause's example stands in card_runs/proofs/Verdicts.
use mathlib.Core.Path.{◌≡◌}
use Prim.Native.Nat.{ℕ, ◌*◌, ◌/◌, ◌≤◌, ◌<◌}
use mathlib.Core.List.{List}
use lib.ListN.{length, get_or, take}
use lib.Dec.{T}
use Rattle.bits.specs.Lists.{All}
use Rattle.bits.specs.Bytes.{Byte}
use Rattle.put_bytes.specs.HighFirst.{two, joined, numbers_in}
use Rattle.outcome.specs.Refusals.{bad_run}
use Rattle.outcome.specs.Numbers.{Gives, run_numbers}
use Rattle.outcome.specs.Outcome.{given, Answers, AnswersInBytes, Gave}
use Rattle.outcome.specs.declared.Answer.{Answer}
use Rattle.card_runs.specs.Runs.{run_ok, low_bytes, run_of, from_low_bytes}
use Rattle.card_runs.specs.Accepted.{SmallSteps, RightRun, AcceptedLow, back_at, AcceptedBack, PassesOver}
use Rattle.card_runs.proofs.Numbers as RunNumbers
use Rattle.card_runs.proofs.Laws.Runs as Runs
use Rattle.card_runs.proofs.Laws.Plain as Plain
use Rattle.card_runs.proofs.Laws.Accepted as Accepted
use Rattle.card_runs.proofs.Laws.Calls as Calls

-- ---- BOTH WAYS: a run and its low bytes give each other back

pub back_after_low : (lent bytes : List ℕ) → All Byte lent → low_bytes lent ≡ given bytes → from_low_bytes bytes ≡ given (numbers_in lent)
back_after_low = Runs.back_after_low_bytes

pub low_after_back : (bytes run : List ℕ) → All Byte bytes → from_low_bytes bytes ≡ given run → low_bytes (joined two run) ≡ given bytes
low_after_back = Runs.low_after_back_bytes

-- what comes back never falls, starts at most at 255 and rises by at most 255 in a step
pub back_right : (bytes : List ℕ) → All Byte bytes → T (run_ok (run_of bytes))
back_right = Runs.run_right

-- the calls themselves: where the first answers 0, and the second is lent what it wrote and room enough
pub low_then_back : {before after before₂ after₂ : List ℕ} {a b : Answer} (lent : List ℕ) → All Byte lent → Answers (low_bytes lent) before after a → a.number ≡ 0
    → AnswersInBytes (from_low_bytes (take a.length after)) before₂ after₂ b → length lent ≤ length before₂
    → (b.number ≡ 0) × (2 * b.length ≡ length lent) × (take (2 * b.length) after₂ ≡ lent)
low_then_back = Calls.low_back

pub back_then_low : {before after before₂ after₂ : List ℕ} {a b : Answer} (bytes : List ℕ) → All Byte bytes → AnswersInBytes (from_low_bytes bytes) before after a
    → a.number ≡ 0 → Answers (low_bytes (take (2 * a.length) after)) before₂ after₂ b → length bytes ≤ length before₂ → Gave bytes after₂ b
back_then_low = Calls.back_low

-- ---- IN PLAIN TERMS

pub run_steps : (run : List ℕ) → T (run_ok run) → SmallSteps run
run_steps = Plain.run_steps

pub steps_run : (run : List ℕ) → SmallSteps run → T (run_ok run)
steps_run = Plain.steps_run

-- a byte comes back as itself and 256 for each drop up to it
pub run_at : (bytes : List ℕ) (i : ℕ) → i < length bytes → get_or (run_of bytes) i 0 ≡ back_at bytes i
run_at = Plain.run_at

-- ---- NUMBERS: 0, 20 and 29, without a place

pub low_numbers : {before after : List ℕ} {a : Answer} (lent : List ℕ) → Answers (low_bytes lent) before after a → Gives run_numbers a.number
low_numbers = RunNumbers.low_numbers

pub low_place : {before after : List ℕ} {a : Answer} (lent : List ℕ) → Answers (low_bytes lent) before after a → a.place ≡ 0
low_place = RunNumbers.low_place

pub back_numbers : {before after : List ℕ} {a : Answer} (bytes : List ℕ) → AnswersInBytes (from_low_bytes bytes) before after a → Gives run_numbers a.number
back_numbers = RunNumbers.back_numbers

pub back_place : {before after : List ℕ} {a : Answer} (bytes : List ℕ) → AnswersInBytes (from_low_bytes bytes) before after a → a.place ≡ 0
back_place = RunNumbers.back_place

-- ---- ACCEPTED: 0 exactly where the run or the bytes are right and there is room

pub low_accepted : {before after : List ℕ} {a : Answer} (lent : List ℕ) → Answers (low_bytes lent) before after a → a.number ≡ 0 → AcceptedLow lent (length before)
low_accepted = Accepted.low_accepted

pub accepted_low : {before after : List ℕ} {a : Answer} (lent : List ℕ) → Answers (low_bytes lent) before after a → AcceptedLow lent (length before) → a.number ≡ 0
accepted_low = Accepted.accepted_low

pub back_accepted : {before after : List ℕ} {a : Answer} (bytes : List ℕ) → AnswersInBytes (from_low_bytes bytes) before after a → a.number ≡ 0
    → AcceptedBack bytes (length before / 2)
back_accepted = Accepted.back_accepted

pub accepted_back : {before after : List ℕ} {a : Answer} (bytes : List ℕ) → AnswersInBytes (from_low_bytes bytes) before after a → AcceptedBack bytes (length before / 2)
    → a.number ≡ 0
accepted_back = Accepted.accepted_back

-- ---- REFUSED: 29 exactly where the run is not right, or a number passes 65,535

pub low_broken : {before after : List ℕ} {a : Answer} (lent : List ℕ) → Answers (low_bytes lent) before after a → a.number ≡ bad_run → RightRun lent → ⊥
low_broken = Accepted.low_broken

pub broken_low : {before after : List ℕ} {a : Answer} (lent : List ℕ) → Answers (low_bytes lent) before after a → (RightRun lent → ⊥) → a.number ≡ bad_run
broken_low = Accepted.broken_low

pub back_over : {before after : List ℕ} {a : Answer} (bytes : List ℕ) → AnswersInBytes (from_low_bytes bytes) before after a → a.number ≡ bad_run → PassesOver bytes
back_over = Accepted.back_over

pub over_back : {before after : List ℕ} {a : Answer} (bytes : List ℕ) → AnswersInBytes (from_low_bytes bytes) before after a → PassesOver bytes → a.number ≡ bad_run
over_back = Accepted.over_back
