-- Numbers in a host's bytes, four bytes each: the number at byte a stands before those from byte a + 4 on.
use mathlib.Core.Path.{◌≡◌, refl, ap}
use Prim.Native.Nat.{ℕ, zero, suc, ◌+◌, ◌*◌, ◌^◌, ◌≤◌, ◌<◌}
use native.Mathlib.Omega.{arith}
use mathlib.Core.List.{List, [], ◌∷◌}
use lib.ListN.{length, drop, get_or, drop_of_length-le}
use Rattle.pores.specs.Numbers.{fours_in}

-- the number at byte a, as code reads it
abbrev pub four_at : List ℕ → ℕ → ℕ
four_at bs a = (get_or bs a 0 * 256 + get_or bs (a + 1) 0) * 65536 + (get_or bs (a + 2) 0 * 256 + get_or bs (a + 3) 0)

fours_first : (bs : List ℕ) → 4 ≤ length bs → fours_in bs ≡ four_at bs 0 ∷ fours_in (drop 4 bs)
fours_first [] l = absurd (omega arith)
fours_first (a ∷ []) l = absurd (omega arith)
fours_first (a ∷ b ∷ []) l = absurd (omega arith)
fours_first (a ∷ b ∷ c ∷ []) l = absurd (omega arith)
fours_first (a ∷ b ∷ c ∷ d ∷ bs) l = refl

pub fours_from : (a : ℕ) (bs : List ℕ) → a + 4 ≤ length bs → fours_in (drop a bs) ≡ four_at bs a ∷ fours_in (drop (a + 4) bs)
fours_from zero bs l = fours_first bs (omega arith)
fours_from (suc a) [] l = absurd (omega arith)
fours_from (suc a) (b ∷ bs) l =
    let e : suc a + 1 ≡ suc (a + 1) = omega arith in
    let f : suc a + 2 ≡ suc (a + 2) = omega arith in
    let g : suc a + 3 ≡ suc (a + 3) = omega arith in
    let h : suc a + 4 ≡ suc (a + 4) = omega arith in
    rw (e, f, g, h) (fours_from a bs (omega arith))

pub fours_none : (a : ℕ) (bs : List ℕ) → length bs ≤ a → fours_in (drop a bs) ≡ []
fours_none a bs l = ap fours_in (drop_of_length-le bs l)

pub four_small : (bs : List ℕ) (a : ℕ) → ((i : ℕ) → get_or bs i 0 < 256) → four_at bs a < 2 ^ 32
four_small bs a b = omega (arith, b a, b (a + 1), b (a + 2), b (a + 3))
