-- The answers of the calls on runs: 0 exactly where what is lent is right and there is room, and 29 exactly where it is not right.
use mathlib.Core.Path.{◌≡◌, sym, ap, ◌∙◌}
use Prim.Native.Nat.{ℕ}
use native.Mathlib.Omega.{arith}
use mathlib.Core.List.{List}
use lib.ListN.{length}
use lib.Dec.{T, not_T}
use Rattle.put_bytes.specs.HighFirst.{numbers_in}
use Rattle.outcome.specs.Refusals.{bad_run}
use Rattle.outcome.specs.Outcome.{Outcome, refused, given, room, number_of, AnswersAs}
use Rattle.outcome.specs.declared.Answer.{Answer}
use Rattle.outcome.proofs.Laws.{not_given, room_zero, zero_room, own_number}
use Rattle.card_runs.specs.Runs.{low_of, lent_ok, low_bytes, run_of, restored_ok, from_low_bytes}
use Rattle.card_runs.specs.Accepted.{RightRun, AcceptedLow, RightBytes, AcceptedBack, PassesOver}
use Rattle.card_runs.proofs.Numbers.{low_never, back_never}
use Rattle.card_runs.proofs.Laws.Runs.{lent_given, lent_refused, restored_given, restored_refused, low_given, back_given, lent_right, right_lent, restored_small, small_restored}
use Rattle.card_runs.proofs.Laws.Plain.{run_steps, steps_run, length_low, length_run, small_right, right_small, passes_over}

-- what is given has another number than 29, whatever the room
not_bad : (n : ℕ) {o : Outcome ℕ} {xs : List ℕ} → o ≡ given xs → number_of (room n o) ≡ bad_run → ⊥
not_bad n {o} q z = let (p, r) = own_number (λ y. absurd (omega arith)) (λ y. absurd (omega arith)) n o z in not_given (sym r ∙ q)

bad : (n : ℕ) {o : Outcome ℕ} → o ≡ refused bad_run 0 → number_of (room n o) ≡ bad_run
bad n q = ap (λ (x : Outcome ℕ). number_of (room n x)) q

-- ---- the tests

right_run : (lent : List ℕ) → T (lent_ok lent) → RightRun lent
right_run lent t =
    let (e, r) = lent_right lent t in
    record { whole = e; steps = run_steps (numbers_in lent) r }

run_lent : (lent : List ℕ) → RightRun lent → T (lent_ok lent)
run_lent lent r = right_lent lent r.whole (steps_run (numbers_in lent) r.steps)

right_bytes : (bytes : List ℕ) → T (restored_ok bytes) → RightBytes bytes
right_bytes bytes t = small_right bytes (restored_small bytes t)

bytes_restored : (bytes : List ℕ) → RightBytes bytes → T (restored_ok bytes)
bytes_restored bytes r = small_restored bytes (right_small bytes r)

-- ---- the outcomes

pub right_low : (lent : List ℕ) {bytes : List ℕ} → low_bytes lent ≡ given bytes → RightRun lent
right_low lent q = right_run lent (low_given lent q).0

pub low_right : (lent : List ℕ) → RightRun lent → low_bytes lent ≡ given (low_of (numbers_in lent))
low_right lent r = lent_given lent (run_lent lent r)

pub right_back : (bytes : List ℕ) {run : List ℕ} → from_low_bytes bytes ≡ given run → RightBytes bytes
right_back bytes q = right_bytes bytes (back_given bytes q).0

pub back_right : (bytes : List ℕ) → RightBytes bytes → from_low_bytes bytes ≡ given (run_of bytes)
back_right bytes r = restored_given bytes (bytes_restored bytes r)

-- ---- the answers

module _ {form : List ℕ → List ℕ} {n : ℕ} {before after : List ℕ} {a : Answer} where
  pub low_accepted : (lent : List ℕ) → AnswersAs form n (low_bytes lent) before after a → a.number ≡ 0 → AcceptedLow lent n
  low_accepted lent h z =
      room_zero n (low_never lent) (sym h.number ∙ z) λ xs q l.
      record { right = right_low lent q; room = omega (arith, l, ap length (low_given lent q).1, length_low lent) }

  pub accepted_low : (lent : List ℕ) → AnswersAs form n (low_bytes lent) before after a → AcceptedLow lent n → a.number ≡ 0
  accepted_low lent h r = h.number ∙ zero_room n (low_right lent r.right) (rw (length_low lent) r.room)

  pub low_broken : (lent : List ℕ) → AnswersAs form n (low_bytes lent) before after a → a.number ≡ bad_run → RightRun lent → ⊥
  low_broken lent h z r = not_bad n (low_right lent r) (sym h.number ∙ z)

  pub broken_low : (lent : List ℕ) → AnswersAs form n (low_bytes lent) before after a → (RightRun lent → ⊥) → a.number ≡ bad_run
  broken_low lent h f = h.number ∙ bad n (lent_refused lent (not_T (lent_ok lent) λ t. f (right_run lent t)))

  pub back_accepted : (bytes : List ℕ) → AnswersAs form n (from_low_bytes bytes) before after a → a.number ≡ 0 → AcceptedBack bytes n
  back_accepted bytes h z =
      room_zero n (back_never bytes) (sym h.number ∙ z) λ xs q l.
      record { right = right_back bytes q; room = omega (arith, l, ap length (back_given bytes q).1, length_run bytes) }

  pub accepted_back : (bytes : List ℕ) → AnswersAs form n (from_low_bytes bytes) before after a → AcceptedBack bytes n → a.number ≡ 0
  accepted_back bytes h r = h.number ∙ zero_room n (back_right bytes r.right) (rw (length_run bytes) r.room)

  pub back_over : (bytes : List ℕ) → AnswersAs form n (from_low_bytes bytes) before after a → a.number ≡ bad_run → PassesOver bytes
  back_over bytes h z = passes_over bytes (not_T (restored_ok bytes) λ t. not_bad n (restored_given bytes t) (sym h.number ∙ z))

  pub over_back : (bytes : List ℕ) → AnswersAs form n (from_low_bytes bytes) before after a → PassesOver bytes → a.number ≡ bad_run
  over_back bytes h p =
      h.number ∙ bad n (restored_refused bytes (not_T (restored_ok bytes) λ t. omega (arith, (right_bytes bytes t).small p.place p.there, p.over)))
