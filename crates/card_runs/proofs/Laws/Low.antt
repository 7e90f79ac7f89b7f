-- The code over a run that is lent: the test of its numbers, one by one, its low bytes laid, one by one, and what the call answers.
use mathlib.Core.Path.{◌≡◌, refl, ◌∙◌}
use Prim.Native.Nat.{ℕ, ◌+◌, ◌*◌, ◌/◌, ◌%◌, ◌≤◌, ◌<◌}
use native.Mathlib.Omega.{arith}
use mathlib.Core.Bool.{true, false}
use mathlib.Core.List.{List, ◌++◌}
use lib.ListN.{length, take, drop, get_or, set, length-set}
use lib.Seq.{take_all}
use Rattle.bits.specs.ListsLaws.{map_at}
use Rattle.put_bytes.specs.HighFirst.{numbers_in}
use Rattle.put_bytes.specs.Laid.{Laid}
use Rattle.put_bytes.proofs.Laws.{copied_more}
use Rattle.put_bytes.proofs.Numbers.{length_numbers, number_at}
use Rattle.outcome.specs.Refusals.{bad_run, no_room}
use Rattle.outcome.specs.Outcome.{Answers}
use Rattle.outcome.proofs.Laws.{answer_refused, answer_full, answer_given}
use Rattle.card_runs.specs.Runs.{climbs, low_of, lent_ok, low_bytes}
use Rattle.card_runs.proofs.Laws.Runs.{lent_given, lent_refused}
use Rattle.card_runs.proofs.Laws.Plain.{length_low}

-- ---- the test

-- the numbers in `rest` have still to be tested; last is the one before them
pub record Climbing (lent rest : List ℕ) (last : ℕ) : Type 0 where
  pub even : length rest % 2 ≡ 0
  pub is : lent_ok lent ≡ climbs last (numbers_in rest)

-- ---- the low bytes

abbrev lows : List ℕ → List ℕ
lows lent = low_of (numbers_in lent)

-- the low byte of number i is byte 2 i + 1
low_at : (lent : List ℕ) (i : ℕ) → i < length lent / 2 → get_or lent (2 * i + 1) 0 < 256 → get_or (lows lent) i 0 ≡ get_or lent (2 * i + 1) 0
low_at lent i l b =
    let e = number_at lent i (omega arith) in
    map_at (λ x. x % 256) (numbers_in lent) i 0 0 (omega (arith, length_numbers lent)) ∙ rw e (omega arith)

-- i of them are laid
pub record Lowering (lent before out : List ℕ) (i : ℕ) : Type 0 where
  pub within : i ≤ length lent / 2
  pub same : length out ≡ length before
  pub is : out ≡ take i (lows lent) ++ drop i before

pub lowering_start : (lent before : List ℕ) → Lowering lent before before 0
lowering_start lent before = record { within = omega arith; same = refl; is = refl }

module _ {lent before out : List ℕ} {i : ℕ} (o : Lowering lent before out i) where
  pub lowering_next : i < length lent / 2 → length lent / 2 ≤ length before → get_or lent (2 * i + 1) 0 < 256
      → Lowering lent before (set out i (get_or lent (2 * i + 1) 0)) (i + 1)
  lowering_next l r b =
      record {
        within = omega arith;
        same = length-set out i _ ∙ o.same;
        is = rw (o.is, ← low_at lent i l b) (copied_more before (lows lent) i (omega arith) (omega (arith, length_low lent)));
      }

  pub lowering_done : length lent / 2 ≤ i → Laid (lows lent) before out (length lent / 2)
  lowering_done l =
      let e : i ≡ length (lows lent) = omega (arith, o.within, length_low lent) in
      record { count = omega (arith, length_low lent); is = o.is ∙ rw (e, take_all (length (lows lent)) (lows lent) (omega arith)) }

-- ---- the answers

module _ (lent before : List ℕ) where
  pub low_bad : lent_ok lent ≡ false → Answers (low_bytes lent) before before (record { number = bad_run; place = 0; length = 0 })
  low_bad e = answer_refused (λ xs. xs) (length before) before (lent_refused lent (rw e tt))

  module _ (e : lent_ok lent ≡ true) where
    pub low_full : length before < length lent / 2 → Answers (low_bytes lent) before before (record { number = no_room; place = 0; length = 0 })
    low_full l = answer_full (λ xs. xs) (length before) before (lent_given lent (rw e tt)) (omega (arith, length_low lent))

    pub low_laid : {after : List ℕ} {n : ℕ} → length lent / 2 ≤ length before → Laid (lows lent) before after n
        → Answers (low_bytes lent) before after (record { number = 0; place = 0; length = n })
    low_laid {after} {n} l h =
        answer_given (λ xs. xs) (length before) before (lent_given lent (rw e tt)) after n (omega (arith, length_low lent)) h.count h.is
