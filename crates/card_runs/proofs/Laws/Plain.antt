-- What the definitions of runs say in plain terms: a run is right exactly where its neighbouring numbers stand near each other, and a byte
-- comes back with 256 added for each drop before it.
use mathlib.Core.Path.{◌≡◌, refl, ap, ◌∙◌}
use Prim.Native.Nat.{ℕ, zero, suc, ◌+◌, ◌*◌, ◌/◌, ◌%◌, ◌≤◌, ◌<◌}
use native.Mathlib.Numerals.{add-one}
use native.Mathlib.Omega.{arith}
use mathlib.Core.Bool.{Bool, true, false, not}
use mathlib.Core.List.{List, [], ◌∷◌}
use lib.ListN.{length, get_or, length-map}
use lib.Dec.{T, leb, ltb}
use mir.Facts.{and_yes, yes_and, no_ltb, yes_leb}
use Rattle.bits.specs.Choice.{pick, within}
use Rattle.bits.specs.ChoiceLaws.{pick_no, T_true, within_low, within_high, within_yes, split}
use Rattle.bits.specs.Lists.{All, every}
use Rattle.bits.specs.ListsLaws.{all_at, at_all}
use Rattle.put_bytes.specs.HighFirst.{numbers_in}
use Rattle.put_bytes.proofs.Numbers.{length_numbers}
use Rattle.card_runs.specs.Runs.{climbs, run_ok, low_of, added_at, restored, run_of, restored_ok}
use Rattle.card_runs.specs.Accepted.{SmallSteps, drops, back_at, RightBytes, PassesOver}

-- ---- a run: p is the number before the first

climbs_at : (p : ℕ) (xs : List ℕ) → T (climbs p xs) → (i : ℕ) → i < length xs → T (within (get_or (p ∷ xs) i 0) (get_or (p ∷ xs) i 0 + 255) (get_or xs i 0))
climbs_at p [] t i l = absurd (omega arith)
climbs_at p (x ∷ xs) t zero l = (and_yes (within p (p + 255) x) (climbs x xs) t).0
climbs_at p (x ∷ xs) t (suc i) l = climbs_at x xs (and_yes (within p (p + 255) x) (climbs x xs) t).1 i (omega arith)

at_climbs : (p : ℕ) (xs : List ℕ) → ((i : ℕ) → i < length xs → T (within (get_or (p ∷ xs) i 0) (get_or (p ∷ xs) i 0 + 255) (get_or xs i 0))) → T (climbs p xs)
at_climbs p [] f = tt
at_climbs p (x ∷ xs) f = yes_and (within p (p + 255) x) (climbs x xs) (f 0 (omega arith)) (at_climbs x xs (λ i l. f (suc i) (omega arith)))

pub run_steps : (run : List ℕ) → T (run_ok run) → SmallSteps run
run_steps run t =
    record {
      start = go run t;
      rises = λ i l. rw add-one (within_low (get_or run i 0) (get_or run i 0 + 255) _ (climbs_at 0 run t (suc i) (omega arith)));
      near = λ i l. rw add-one (within_high (get_or run i 0) (get_or run i 0 + 255) _ (climbs_at 0 run t (suc i) (omega arith)));
    }
  where
    go : (run : List ℕ) → T (run_ok run) → get_or run 0 0 ≤ 255
    go [] t = omega arith
    go (x ∷ xs) t = within_high 0 255 x (climbs_at 0 (x ∷ xs) t 0 (omega arith))

pub steps_run : (run : List ℕ) → SmallSteps run → T (run_ok run)
steps_run run s = at_climbs 0 run go
  where
    go : (i : ℕ) → i < length run → T (within (get_or (0 ∷ run) i 0) (get_or (0 ∷ run) i 0 + 255) (get_or run i 0))
    go zero l = within_yes 0 255 (get_or run 0 0) (omega arith) s.start
    go (suc i) l =
        within_yes (get_or run i 0) (get_or run i 0 + 255) (get_or run (suc i) 0) (rw add-one at (s.rises i (omega arith))) (rw add-one at (s.near i (omega arith)))

pub length_low : (lent : List ℕ) → length (low_of (numbers_in lent)) ≡ length lent / 2
length_low lent = length-map (numbers_in lent) (λ x. x % 256) ∙ length_numbers lent

-- ---- low bytes

length_restored : (added before : ℕ) (bytes : List ℕ) → length (restored added before bytes) ≡ length bytes
length_restored added before [] = refl
length_restored added before (x ∷ xs) = ap suc (length_restored (added_at added before x) x xs)

pub length_run : (bytes : List ℕ) → length (run_of bytes) ≡ length bytes
length_run bytes = length_restored 0 0 bytes

-- the first drop that there can be, and those behind it
drops_from : (x : ℕ) (xs : List ℕ) (i : ℕ) → drops (x ∷ xs) (suc i) ≡ pick (ltb (get_or xs 0 0) x) 1 0 + drops xs i
drops_from x xs zero = refl
drops_from x xs (suc i) = omega (arith, drops_from x xs i)

added_by : (added before x : ℕ) → added_at added before x ≡ added + 256 * pick (ltb x before) 1 0
added_by added before x = go (ltb x before)
  where
    go : (b : Bool) → pick b (added + 256) added ≡ added + 256 * pick b 1 0
    go true = omega arith
    go false = omega arith

restored_at : (added before : ℕ) (bytes : List ℕ) (i : ℕ) → i < length bytes
    → get_or (restored added before bytes) i 0 ≡ added + 256 * (pick (ltb (get_or bytes 0 0) before) 1 0 + drops bytes i) + get_or bytes i 0
restored_at added before [] i l = absurd (omega arith)
restored_at added before (x ∷ xs) zero l = omega (arith, added_by added before x)
restored_at added before (x ∷ xs) (suc i) l =
    omega (arith, restored_at (added_at added before x) x xs i (omega arith), added_by added before x, drops_from x xs i)

-- the number at place i
pub run_at : (bytes : List ℕ) (i : ℕ) → i < length bytes → get_or (run_of bytes) i 0 ≡ back_at bytes i
run_at bytes i l =
    let z : ◌≡◌ {A = ℕ} (pick (ltb (get_or bytes 0 0) 0) 1 0) 0 = pick_no (ltb (get_or bytes 0 0) 0) 1 0 (no_ltb {a = get_or bytes 0 0} (omega arith)) in
    omega (arith, restored_at 0 0 bytes i l, z)

-- ---- bytes of which no number passes 65,535

pub small_right : (bytes : List ℕ) → All (λ x. x ≤ 65535) (run_of bytes) → RightBytes bytes
small_right bytes h =
    record { small = λ i l. rw (run_at bytes i l) at (all_at (λ x. x ≤ 65535) 0 (run_of bytes) i (rw (length_run bytes) l) h) }

pub right_small : (bytes : List ℕ) → RightBytes bytes → All (λ x. x ≤ 65535) (run_of bytes)
right_small bytes r =
    at_all (λ x. x ≤ 65535) 0 (run_of bytes) λ i l.
    let k : i < length bytes = rw (length_run bytes) at l in rw (run_at bytes i k) (r.small i k)

-- and of which one does
first_over : (xs : List ℕ) → T (not (every (λ x. leb x 65535) xs)) → (i : ℕ) × (i < length xs) × (65535 < get_or xs i 0)
first_over [] t = absurd t
first_over (x ∷ xs) t =
    split x 65535
    (λ l. let (i, k, h) = first_over xs (rw (T_true (leb x 65535) (yes_leb l)) at t) in (suc i, omega arith, h))
    (λ l. (0, omega arith, l))

pub passes_over : (bytes : List ℕ) → T (not (restored_ok bytes)) → PassesOver bytes
passes_over bytes t =
    let (i, l, h) = first_over (run_of bytes) t in
    let k : i < length bytes = rw (length_run bytes) at l in
    record { place = i; there = k; over = rw (run_at bytes i k) at h }
