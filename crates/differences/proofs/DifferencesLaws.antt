-- Falling lists and right differences go over into each other.
use Rattle.std.specs.Prelude.{◌≡◌, refl, ℕ, suc, ◌+◌, ◌-◌, ◌^◌, ◌≤◌, ◌<◌, List, [], ◌∷◌, length}
use Rattle.std.proofs.Common.{ap, ap₂, arith}
use Rattle.bits.specs.ChoiceLaws.{within_low, within_high, within_yes}
use Rattle.bits.specs.Lists.{All, Along}
use Rattle.differences.specs.Differences.{Falls, diffs, undiffs, diff, tell_difference}

-- differences that the codec takes, from the state (m, l) on
abbrev pub Steps : ℕ → ℕ → ℕ → List ℕ → Type 0
Steps w m l ds = Along tell_difference (λ i d. (diff w i).Fits d) (m, l) ds

-- ---- laws

pub length_diffs : (l : ℕ) (ns : List ℕ) → length (diffs l ns) ≡ length ns
length_diffs l [] = refl
length_diffs l (n ∷ ns) = ap suc (length_diffs n ns)

pub length_undiffs : (l : ℕ) (ns : List ℕ) → length (undiffs l ns) ≡ length ns
length_undiffs l [] = refl
length_undiffs l (n ∷ ns) = ap suc (length_undiffs (l - n) ns)

pub undiffs_diffs : (m l : ℕ) (ns : List ℕ) → Falls m l ns → undiffs l (diffs l ns) ≡ ns
undiffs_diffs m l [] h = refl
undiffs_diffs m l (n ∷ ns) h =
    let e : l - (l - n) ≡ n = omega arith in
    rw e (ap (λ (r : List ℕ). n ∷ r) (undiffs_diffs 1 n ns h.1))

pub steps_falls : (w m l : ℕ) (ds : List ℕ) → Steps w m l ds → Falls m l (undiffs l ds) × (diffs l (undiffs l ds) ≡ ds) × All (λ d. d < 2 ^ w) ds
steps_falls w m l [] h = (tt, refl, tt)
steps_falls w m l (d ∷ ds) h =
    let lo : m ≤ d = within_low m l d h.0.1 in
    let hi : d ≤ l = within_high m l d h.0.1 in
    let (f, e, g) = steps_falls w 1 (l - d) ds h.1 in
    ((omega arith, f), ap₂ (λ (x : ℕ) (y : List ℕ). x ∷ y) (omega arith) e, (h.0.0, g))

pub falls_steps : (w m l : ℕ) (ns : List ℕ) → Falls m l ns → All (λ d. d < 2 ^ w) (diffs l ns) → Steps w m l (diffs l ns)
falls_steps w m l [] h f = tt
falls_steps w m l (n ∷ ns) h f =
    let e : l - (l - n) ≡ n = omega arith in
    ((f.0, within_yes m l (l - n) (omega arith) (omega arith)), rw e (falls_steps w 1 n ns h.1 f.1))

-- at most l + 1 numbers fall from l on, and one less where the first is below l
pub falls_count : (m l : ℕ) (ns : List ℕ) → m ≤ 1 → Falls m l ns → length ns + m ≤ suc l
falls_count m l [] k h = omega arith
falls_count m l (n ∷ ns) k h = omega (arith, falls_count 1 n ns (omega arith) h.1)
