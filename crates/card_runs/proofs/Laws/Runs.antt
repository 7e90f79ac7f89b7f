-- A run to its low bytes and back, and low bytes to their run and back: over lists, and over the outcomes of the two calls.
use mathlib.Core.Path.{◌≡◌, refl, sym, ap, ap₂, ◌∙◌}
use Prim.Native.Nat.{ℕ, ◌+◌, ◌*◌, ◌/◌, ◌%◌, ◌≤◌, ◌<◌}
use native.Mathlib.Omega.{arith}
use mathlib.Core.Bool.{not}
use mathlib.Core.List.{List, [], ◌∷◌}
use lib.ListN.{length}
use lib.Dec.{T, leb, ltb, eqb}
use mir.Facts.{and_yes, yes_and, ltb_yes, ltb_no, leb_yes, eqb_yes, yes_ltb, no_ltb, yes_leb, yes_eqb}
use Rattle.bits.specs.Choice.{within}
use Rattle.bits.specs.ChoiceLaws.{pick_yes, pick_no, pick_case, pick_split, within_low, within_high, within_yes, split}
use Rattle.bits.specs.Lists.{All}
use Rattle.bits.specs.ListsLaws.{all_to, every_yes, yes_every}
use Rattle.bits.specs.Bytes.{Byte}
use Rattle.put_bytes.specs.HighFirst.{two, joined, numbers_in}
use Rattle.put_bytes.proofs.Laws.{twos_length}
use Rattle.put_bytes.proofs.Numbers.{numbers_written, numbers_small}
use Rattle.outcome.specs.Refusals.{bad_run}
use Rattle.outcome.specs.Outcome.{refused, given}
use Rattle.outcome.proofs.Laws.{not_given}
use Rattle.card_runs.specs.Runs.{climbs, run_ok, low_of, lent_ok, low_bytes, added_at, restored, run_of, restored_ok, from_low_bytes}

-- ---- to low bytes and back

-- between two numbers that are at most 255 apart the high byte rises, by one, exactly where the low byte drops
added_is : (p x : ℕ) → p ≤ x → x ≤ p + 255 → added_at (p / 256 * 256) (p % 256) (x % 256) ≡ x / 256 * 256
added_is p x l h =
    split (p % 256) (x % 256)
    (λ k. let e : p / 256 * 256 ≡ x / 256 * 256 = omega arith in pick_no (ltb (x % 256) (p % 256)) _ _ (no_ltb k) ∙ e)
    (λ k. let e : p / 256 * 256 + 256 ≡ x / 256 * 256 = omega arith in pick_yes (ltb (x % 256) (p % 256)) _ _ (yes_ltb k) ∙ e)

restored_low : (p : ℕ) (xs : List ℕ) → T (climbs p xs) → restored (p / 256 * 256) (p % 256) (low_of xs) ≡ xs
restored_low p [] t = refl
restored_low p (x ∷ xs) t =
    let (w, r) = and_yes (within p (p + 255) x) (climbs x xs) t in
    let e = added_is p x (within_low p (p + 255) x w) (within_high p (p + 255) x w) in
    let z : x / 256 * 256 + x % 256 ≡ x = omega arith in
    rw e (ap₂ (λ (y : ℕ) (ys : List ℕ). y ∷ ys) z (restored_low x xs r))

pub back_after_low : (run : List ℕ) → T (run_ok run) → run_of (low_of run) ≡ run
back_after_low run t = restored_low 0 run t

-- ---- back and to low bytes

low_restored : (added before : ℕ) (bytes : List ℕ) → added % 256 ≡ 0 → All Byte bytes → low_of (restored added before bytes) ≡ bytes
low_restored added before [] z h = refl
low_restored added before (x ∷ xs) z h =
    let m : ℕ = added_at added before x in
    let y : m % 256 ≡ 0 = pick_case (λ (n : ℕ). n % 256 ≡ 0) (ltb x before) (added + 256) added (λ t. omega arith) (λ t. z) in
    let l : x < 256 = h.0 in
    let e : (m + x) % 256 ≡ x = omega arith in
    ap₂ (λ (n : ℕ) (ns : List ℕ). n ∷ ns) e (low_restored m x xs y h.1)

pub low_after_back : (bytes : List ℕ) → All Byte bytes → low_of (run_of bytes) ≡ bytes
low_after_back bytes h = low_restored 0 0 bytes refl h

restored_climbs : (added before : ℕ) → before < 256 → (bytes : List ℕ) → All Byte bytes → T (climbs (added + before) (restored added before bytes))
restored_climbs added before b [] h = tt
restored_climbs added before b (x ∷ xs) h =
    let p : ℕ = added + before in
    let l : x < 256 = h.0 in
    let rest : (m : ℕ) → T (climbs (m + x) (restored m x xs)) = λ m. restored_climbs m x l xs h.1 in
    let step : (m : ℕ) → p ≤ m + x → m + x ≤ p + 255 → T (climbs p ((m + x) ∷ restored m x xs)) =
    λ m i j. yes_and (within p (p + 255) (m + x)) (climbs (m + x) (restored m x xs)) (within_yes p (p + 255) (m + x) i j) (rest m) in
    pick_case (λ (m : ℕ). T (climbs p ((m + x) ∷ restored m x xs))) (ltb x before) (added + 256) added
    (λ t. let k : x < before = ltb_yes t in step (added + 256) (omega arith) (omega arith))
    (λ t. let k : before ≤ x = ltb_no t in step added (omega arith) (omega arith))

-- what comes back of bytes is a run that can go to low bytes
pub run_right : (bytes : List ℕ) → All Byte bytes → T (run_ok (run_of bytes))
run_right bytes h = restored_climbs 0 0 (omega arith) bytes h

-- ---- what the outcomes say

pub lent_given : (lent : List ℕ) → T (lent_ok lent) → low_bytes lent ≡ given (low_of (numbers_in lent))
unfolding low_bytes
lent_given lent t = pick_yes (lent_ok lent) _ _ t

pub lent_refused : (lent : List ℕ) → T (not (lent_ok lent)) → low_bytes lent ≡ refused bad_run 0
unfolding low_bytes
lent_refused lent t = pick_no (lent_ok lent) _ _ t

pub restored_given : (bytes : List ℕ) → T (restored_ok bytes) → from_low_bytes bytes ≡ given (run_of bytes)
unfolding from_low_bytes
restored_given bytes t = pick_yes (restored_ok bytes) _ _ t

pub restored_refused : (bytes : List ℕ) → T (not (restored_ok bytes)) → from_low_bytes bytes ≡ refused bad_run 0
unfolding from_low_bytes
restored_refused bytes t = pick_no (restored_ok bytes) _ _ t

-- what is given was right
pub low_given : (lent : List ℕ) {bytes : List ℕ} → low_bytes lent ≡ given bytes → T (lent_ok lent) × (low_of (numbers_in lent) ≡ bytes)
unfolding low_bytes
low_given lent q = pick_split (lent_ok lent) _ _ q (λ t e. (t, cc)) (λ t e. not_given e)

pub back_given : (bytes : List ℕ) {run : List ℕ} → from_low_bytes bytes ≡ given run → T (restored_ok bytes) × (run_of bytes ≡ run)
unfolding from_low_bytes
back_given bytes q = pick_split (restored_ok bytes) _ _ q (λ t e. (t, cc)) (λ t e. not_given e)

-- the tests, taken apart
pub lent_right : (lent : List ℕ) → T (lent_ok lent) → (length lent % 2 ≡ 0) × T (run_ok (numbers_in lent))
lent_right lent t = let (a, b) = and_yes (eqb (length lent % 2) 0) (run_ok (numbers_in lent)) t in (eqb_yes a, b)

pub right_lent : (lent : List ℕ) → length lent % 2 ≡ 0 → T (run_ok (numbers_in lent)) → T (lent_ok lent)
right_lent lent e t = yes_and (eqb (length lent % 2) 0) (run_ok (numbers_in lent)) (yes_eqb e) t

pub restored_small : (bytes : List ℕ) → T (restored_ok bytes) → All (λ x. x ≤ 65535) (run_of bytes)
restored_small bytes t = all_to (λ x. T (leb x 65535)) (λ x. x ≤ 65535) (run_of bytes) (λ x u. leb_yes u) (yes_every (λ x. leb x 65535) (run_of bytes) t)

pub small_restored : (bytes : List ℕ) → All (λ x. x ≤ 65535) (run_of bytes) → T (restored_ok bytes)
small_restored bytes h = every_yes (λ x. leb x 65535) (run_of bytes) (all_to (λ x. x ≤ 65535) (λ x. T (leb x 65535)) (run_of bytes) (λ x l. yes_leb l) h)

-- ---- the outcomes, one behind the other

pub back_after_low_bytes : (lent bytes : List ℕ) → All Byte lent → low_bytes lent ≡ given bytes → from_low_bytes bytes ≡ given (numbers_in lent)
back_after_low_bytes lent bytes h q =
    let (t, e) = low_given lent q in
    let z : run_of bytes ≡ numbers_in lent = ap run_of (sym e) ∙ back_after_low (numbers_in lent) (lent_right lent t).1 in
    let s : All (λ x. x ≤ 65535) (numbers_in lent) = all_to (λ x. x < 65536) (λ x. x ≤ 65535) (numbers_in lent) (λ x l. omega arith) (numbers_small lent h) in
    restored_given bytes (small_restored bytes (rw z s)) ∙ ap given z

pub low_after_back_bytes : (bytes run : List ℕ) → All Byte bytes → from_low_bytes bytes ≡ given run → low_bytes (joined two run) ≡ given bytes
low_after_back_bytes bytes run h q =
    let z : numbers_in (joined two run) ≡ run_of bytes = numbers_written run ∙ sym (back_given bytes q).1 in
    lent_given (joined two run) (right_lent (joined two run) (omega (arith, twos_length run)) (rw z (run_right bytes h)))
    ∙ ap (λ (ns : List ℕ). given (low_of ns)) z ∙ ap given (low_after_back bytes h)
