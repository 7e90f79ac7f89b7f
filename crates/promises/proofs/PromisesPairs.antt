-- WHAT THE LIBRARY PROMISES OF LISTS OF PAIRS: many orders about the lines of one view, in one call. "Its outcome is that of giving
-- them singly, each to the record the one before left. If any would be refused that way, 19 and 20 included, the call gives that
-- number with that order's place in the list, and writes nothing." Promises is the front page: that a refusal writes nothing, that the
-- contract allows one answer and one buffer alone, and what a sequence leaves in which lists of pairs stand, is said there
-- (`refusal_writes_nothing`, `one_answer`, `any_run`, `any_follow`, `calls_follow`). The contract of the call is
-- `Answers (pairs (pairs_call view count list before) bytes) before after`; before and after are what the second buffer holds. The
-- names in statements stand in specs/:
--   bits/specs/Choice          pick, within
--   outcome/specs/Refusals, Numbers, Placed  no_view, bad_pairs; Gives, pairs_numbers; PlacedInList
--   outcome/specs/Outcome      Answers, Gave
--   format/specs/Named         NoViewNamed
--   places/specs/Reach         reach, Agree, AnsweredAlike
--   orders/specs/Listed        words, shape_ok
--   orders/specs/History       run
--   orders/specs/Pairs         pairs_call, singly, pairs
--   orders/specs/AnyCall       AllTaken, Stopped
--   orders/specs/Accept        BrokenPairs
-- `Answer` is the struct of outcome/src, `ViewName` that of format/src, `length`, `T` and the signs are the toolchain's.
use mathlib.Core.Path.{◌≡◌}
use mathlib.Core.Logic.{◌≢◌}
use Prim.Native.Nat.{ℕ, ◌+◌, ◌*◌}
use mathlib.Core.Bool.{not}
use mathlib.Core.List.{List}
use lib.ListN.{length}
use lib.Dec.{T}
use Rattle.bits.specs.Choice.{pick, within}
use Rattle.outcome.specs.Refusals.{no_view, bad_pairs}
use Rattle.outcome.specs.Numbers.{Gives, pairs_numbers}
use Rattle.outcome.specs.Placed.{PlacedInList}
use Rattle.outcome.specs.Outcome.{Answers, Gave}
use Rattle.outcome.specs.declared.Answer.{Answer}
use Rattle.format.specs.Named.{NoViewNamed}
use Rattle.format.specs.declared.ViewName.{ViewName}
use Rattle.places.specs.Reach.{reach, Agree, AnsweredAlike}
use Rattle.orders.specs.Listed.{words, shape_ok}
use Rattle.orders.specs.History.{run}
use Rattle.orders.specs.Pairs.{pairs_call, singly, pairs}
use Rattle.orders.specs.AnyCall.{AllTaken, Stopped}
use Rattle.orders.specs.Accept.{BrokenPairs}
use Rattle.orders.proofs.Laws.PairsNumbers as PairsNumbers
use Rattle.orders.proofs.Laws.Singly as Singly
use Rattle.promises.proofs.Decides as Decides
use Rattle.promises.proofs.Unnamed as Unnamed

-- ---- GIVEN SINGLY: the orders of the list, each lent the record that the one before left and the room that the call is lent

-- 0 exactly where the list has its shape and all these are accepted; the second buffer then starts with the record that they leave
pub pairs_accepted : (view : ViewName) (count : ℕ) (list bytes : List ℕ) {before after : List ℕ} {a : Answer}
    → Answers (pairs (pairs_call view count list before) bytes) before after a → a.number ≡ 0
    → T (shape_ok list) × AllTaken (singly (pairs_call view count list before)) bytes
    × Gave (run (singly (pairs_call view count list before)) bytes) after a
pairs_accepted = Singly.call_taken

pub accepted_pairs : (view : ViewName) (count : ℕ) (list bytes : List ℕ) {before after : List ℕ} {a : Answer}
    → Answers (pairs (pairs_call view count list before) bytes) before after a → T (shape_ok list)
    → AllTaken (singly (pairs_call view count list before)) bytes → Gave (run (singly (pairs_call view count list before)) bytes) after a
accepted_pairs = Singly.taken_call

-- else, of a list that has its shape, one is the first that is refused: the call's number is the one that it gives, and the call's
-- place is its place in the list. But where the bytes are no record, which the first order would tell, the place is that of the
-- record's refusal, as of any call
pub pairs_stopped : (view : ViewName) (count : ℕ) (list bytes : List ℕ) {before after : List ℕ} {a : Answer}
    → Answers (pairs (pairs_call view count list before) bytes) before after a → T (shape_ok list) → a.number ≢ 0
    → Stopped (singly (pairs_call view count list before)) bytes a.number (pick (within 2 12 a.number) 0 a.place)
pairs_stopped = Singly.call_stopped

pub stopped_pairs : (view : ViewName) (count : ℕ) (list bytes : List ℕ) {before after : List ℕ} {a : Answer}
    → Answers (pairs (pairs_call view count list before) bytes) before after a → T (shape_ok list) → (e p : ℕ)
    → Stopped (singly (pairs_call view count list before)) bytes e p → (a.number ≡ e) × (T (not (within 2 12 e)) → a.place ≡ p)
stopped_pairs = Singly.stopped_call

-- ---- THE SHAPE: 25 exactly where the view is there and has the count and an index, and the list is empty or has another shape

pub pairs_broken : (view : ViewName) (count : ℕ) (list bytes : List ℕ) {before after : List ℕ} {a : Answer}
    → Answers (pairs (pairs_call view count list before) bytes) before after a → a.number ≡ bad_pairs
    → BrokenPairs view count list bytes
pairs_broken = PairsNumbers.pairs_broken

pub broken_pairs : (view : ViewName) (count : ℕ) (list bytes : List ℕ) {before after : List ℕ} {a : Answer}
    → Answers (pairs (pairs_call view count list before) bytes) before after a → BrokenPairs view count list bytes
    → a.number ≡ bad_pairs
broken_pairs = PairsNumbers.broken_pairs

-- ---- THE VIEW: 13 exactly where the bytes read as a record of which no view has that finger position and view number

pub pairs_unnamed : (view : ViewName) (count : ℕ) (list bytes : List ℕ) {before after : List ℕ} {a : Answer}
    → Answers (pairs (pairs_call view count list before) bytes) before after a
    → (a.number ≡ no_view → NoViewNamed view bytes) × (NoViewNamed view bytes → a.number ≡ no_view)
pairs_unnamed = Unnamed.pairs_answer_unnamed

-- ---- NUMBERS AND PLACES

pub pairs_numbers_lem : (view : ViewName) (count : ℕ) (list bytes : List ℕ) {before after : List ℕ} {a : Answer}
    → Answers (pairs (pairs_call view count list before) bytes) before after a → Gives pairs_numbers a.number
pairs_numbers_lem = PairsNumbers.pairs_numbers_lem

-- that of an order, for 15, 18, 19 and 20; within the record's bits or at their end, for 2 to 12; else 0
pub pairs_place : (view : ViewName) (count : ℕ) (list bytes : List ℕ) {before after : List ℕ} {a : Answer}
    → Answers (pairs (pairs_call view count list before) bytes) before after a
    → PlacedInList (8 * length bytes) (length (words list)) a.number a.place
pairs_place = PairsNumbers.pairs_place

-- what decides a refusal 2 to 12, as of every call on a record (PromisesCalls)
pub pairs_decided : (view : ViewName) (count : ℕ) (list a b : List ℕ) {before after before₂ after₂ : List ℕ} {x y : Answer}
    → Answers (pairs (pairs_call view count list before) a) before after x
    → Answers (pairs (pairs_call view count list before₂) b) before₂ after₂ y → T (within 2 12 x.number)
    → Agree (x.place + reach x.number) a b → AnsweredAlike x y
pairs_decided = Decides.pairs_decided
