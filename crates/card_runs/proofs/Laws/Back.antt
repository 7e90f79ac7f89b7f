-- The code over low bytes: what is added so far brings back the rest of the run; the test of its numbers, one by one, their bytes laid,
-- one number behind the other, and what the call answers.
use mathlib.Core.Path.{◌≡◌, refl, sym, ap, ◌∙◌}
use Prim.Native.Nat.{ℕ, ◌+◌, ◌*◌, ◌/◌, ◌≤◌, ◌<◌}
use native.Mathlib.Numerals.{add-one}
use native.Mathlib.Omega.{arith}
use mathlib.Core.Bool.{true, false, ◌&&◌}
use mathlib.Core.List.{List, ◌∷◌, ◌++◌}
use lib.ListN.{length, take, drop, get_or, drop_of_length-le}
use lib.Seq.{drop-cons, take-suc, take_all}
use lib.Dec.{T, leb, ltb}
use mir.Facts.{yes_leb, no_leb}
use Rattle.bits.specs.ChoiceLaws.{pick_case, T_true, T_false}
use Rattle.bits.specs.Lists.{every}
use Rattle.bits.specs.ListsLaws.{all_at, first_left}
use Rattle.put_bytes.specs.HighFirst.{two, joined}
use Rattle.put_bytes.specs.Laid.{Laid}
use Rattle.put_bytes.proofs.Laws.{lent, back, laid_none, laid_next, laid_same, joined_snoc, twos_length}
use Rattle.outcome.specs.Refusals.{bad_run, no_room}
use Rattle.outcome.specs.Outcome.{AnswersInBytes}
use Rattle.outcome.proofs.Laws.{answer_refused, answer_full, answer_given}
use Rattle.card_runs.specs.Runs.{added_at, restored, run_of, restored_ok, from_low_bytes}
use Rattle.card_runs.proofs.Laws.Runs.{restored_given, restored_refused, restored_small}
use Rattle.card_runs.proofs.Laws.Plain.{length_run}

-- ---- byte by byte

-- i bytes are passed, the last of them was `before`, and so much is added: the rest of the run is what the rest of the bytes comes back as
pub record Passed (bytes : List ℕ) (added before i : ℕ) : Type 0 where
  pub within : i ≤ length bytes
  pub small : added ≤ 65535
  pub rest : drop i (run_of bytes) ≡ restored added before (drop i bytes)

passed_start : (bytes : List ℕ) → Passed bytes 0 0 0
passed_start bytes = record { within = omega arith; small = omega arith; rest = refl }

module _ {bytes : List ℕ} {added before i x more : ℕ} (p : Passed bytes added before i) (l : i < length bytes) (e : x ≡ get_or bytes i 0)
    (m : more ≡ added_at added before x) where
  next_is : drop i (run_of bytes) ≡ (more + x) ∷ restored more x (drop (i + 1) bytes)
  next_is =
      p.rest ∙ ap (restored added before) (drop-cons bytes i 0 l ∙ ap (λ (n : ℕ). get_or bytes i 0 ∷ drop n bytes) (sym (add-one i))) ∙ rw (m, e)

  -- what is added there, whatever the number comes to
  pub passed_few : more ≤ 65791
  passed_few = rw m (pick_case (λ (n : ℕ). n ≤ 65791) (ltb x before) (added + 256) added (λ t. omega (arith, p.small)) (λ t. omega (arith, p.small)))

  -- the number at place i
  pub passed_here : get_or (run_of bytes) i 0 ≡ more + x
  passed_here = sym (first_left (run_of bytes) i 0 next_is).1

  passed_next : more + x ≤ 65535 → Passed bytes more x (i + 1)
  passed_next k = record { within = omega arith; small = omega arith; rest = sym (first_left (run_of bytes) i 0 next_is).2 }

-- ---- the test

-- the numbers from place i on have still to be tested
pub record Judging (bytes : List ℕ) (added before i : ℕ) : Type 0 where
  pub passed : Passed bytes added before i
  pub is : restored_ok bytes ≡ every (λ n. leb n 65535) (drop i (run_of bytes))

pub judging_start : (bytes : List ℕ) → Judging bytes 0 0 0
judging_start bytes = record { passed = passed_start bytes; is = refl }

module _ {bytes : List ℕ} {added before i x more : ℕ} (j : Judging bytes added before i) (l : i < length bytes) (e : x ≡ get_or bytes i 0)
    (m : more ≡ added_at added before x) where
  next_test : restored_ok bytes ≡ (leb (more + x) 65535 && every (λ n. leb n 65535) (restored more x (drop (i + 1) bytes)))
  next_test = j.is ∙ ap (every (λ n. leb n 65535)) (next_is j.passed l e m)

  pub judging_over : 65535 < more + x → restored_ok bytes ≡ false
  judging_over k = next_test ∙ rw (T_false (leb (more + x) 65535) (no_leb k))

  pub judging_next : more + x ≤ 65535 → Judging bytes more x (i + 1)
  judging_next k =
      let p = passed_next j.passed l e m k in
      record { passed = p; is = next_test ∙ rw (T_true (leb (more + x) 65535) (yes_leb k), p.rest) }

pub judging_done : {bytes : List ℕ} {added before i : ℕ} → Judging bytes added before i → length bytes ≤ i → restored_ok bytes ≡ true
judging_done {bytes} {i = i} j l =
    let k : length (run_of bytes) ≤ i = rw (length_run bytes) l in
    j.is ∙ ap (every (λ n. leb n 65535)) (drop_of_length-le (run_of bytes) k)

-- ---- the numbers

-- i numbers are laid, before place `at`
pub record Putting (bytes before out : List ℕ) (added last at i : ℕ) : Type 0 where
  pub passed : Passed bytes added last i
  pub same : length out ≡ length before
  pub place : at ≡ 2 * i
  pub laid : Laid (joined two (take i (run_of bytes))) before out at

pub putting_start : (bytes before : List ℕ) → Putting bytes before before 0 0 0 0
putting_start bytes before = record { passed = passed_start bytes; same = refl; place = refl; laid = laid_none before }

-- there is room for the next
pub putting_room : {bytes before out : List ℕ} {added last at i : ℕ} → Putting bytes before out added last at i → i < length bytes
    → 2 * length bytes ≤ length before → at + 2 ≤ length out
putting_room o l r = omega (arith, o.same, o.place)

module _ {bytes before out : List ℕ} {added last at i x more : ℕ} (o : Putting bytes before out added last at i) (l : i < length bytes)
    (e : x ≡ get_or bytes i 0) (m : more ≡ added_at added last x) (t : T (restored_ok bytes)) where
  pub putting_small : more + x ≤ 65535
  putting_small =
      let k : i < length (run_of bytes) = rw (length_run bytes) l in
      rw (passed_here o.passed l e m) at (all_at (λ n. n ≤ 65535) 0 (run_of bytes) i k (restored_small bytes t))

  pub putting_next : {ys : List ℕ} {n : ℕ} → 2 * length bytes ≤ length before → Laid (two (more + x)) (lent out at) ys n
      → Putting bytes before (back out at ys) more x (at + n) (i + 1)
  putting_next {ys} {n} r h =
      let k : i < length (run_of bytes) = rw (length_run bytes) l in
      let z : joined two (take (i + 1) (run_of bytes)) ≡ joined two (take i (run_of bytes)) ++ two (more + x) =
      ap (λ (j : ℕ). joined two (take j (run_of bytes))) (add-one i) ∙ ap (joined two) (take-suc (run_of bytes) i 0 k)
      ∙ joined_snoc two (take i (run_of bytes)) (get_or (run_of bytes) i 0)
      ∙ ap (λ (y : ℕ). joined two (take i (run_of bytes)) ++ two y) (passed_here o.passed l e m) in
      let w : Laid (joined two (take i (run_of bytes)) ++ two (more + x)) before (back out at ys) (at + n) = laid_next o.laid h in
      record {
        passed = passed_next o.passed l e m putting_small;
        same = laid_same w (omega (arith, o.place, h.count));
        place = omega (arith, o.place, h.count);
        laid = rw z w;
      }

pub putting_done : {bytes before out : List ℕ} {added last at i : ℕ} → Putting bytes before out added last at i → length bytes ≤ i
    → Laid (joined two (run_of bytes)) before out (2 * length bytes)
putting_done {bytes} {at = at} {i = i} o l =
    let k : length (run_of bytes) ≤ i = rw (length_run bytes) l in
    let e : 2 * length bytes ≡ at = omega (arith, o.place, o.passed.within) in
    rw e (rw (take_all i (run_of bytes) k) at o.laid)

-- ---- the answers

module _ (bytes before : List ℕ) where
  pub back_bad : restored_ok bytes ≡ false → AnswersInBytes (from_low_bytes bytes) before before (record { number = bad_run; place = 0; length = 0 })
  back_bad e = answer_refused (joined two) (length before / 2) before (restored_refused bytes (rw e tt))

  module _ (e : restored_ok bytes ≡ true) where
    pub back_full : length before / 2 < length bytes → AnswersInBytes (from_low_bytes bytes) before before (record { number = no_room; place = 0; length = 0 })
    back_full l = answer_full (joined two) (length before / 2) before (restored_given bytes (rw e tt)) (rw (length_run bytes) l)

    pub back_laid : {after : List ℕ} {n : ℕ} → length bytes ≤ length before / 2 → Laid (joined two (run_of bytes)) before after (2 * n)
        → AnswersInBytes (from_low_bytes bytes) before after (record { number = 0; place = 0; length = n })
    back_laid {after} {n} l h =
        answer_given (joined two) (length before / 2) before (restored_given bytes (rw e tt)) after n (rw (length_run bytes) l)
        (omega (arith, h.count, twos_length (run_of bytes))) h.is
