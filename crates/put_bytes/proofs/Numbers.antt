-- The laws of the numbers of 16 bits in bytes: how many they are, where each stands, and that numbers written as two bytes each are read
-- back.
use mathlib.Core.Path.{◌≡◌, refl, ap, ap₂}
use Prim.Native.Nat.{ℕ, zero, suc, ◌+◌, ◌*◌, ◌/◌, ◌%◌, ◌≤◌, ◌<◌}
use native.Mathlib.Omega.{arith}
use mathlib.Core.List.{List, [], ◌∷◌}
use lib.ListN.{length, drop, get_or}
use Rattle.bits.specs.Lists.{All}
use Rattle.bits.specs.Bytes.{Byte}
use Rattle.put_bytes.specs.HighFirst.{two, joined, numbers_in}

-- ---- where they stand

pub length_numbers : (bs : List ℕ) → length (numbers_in bs) ≡ length bs / 2
length_numbers [] = refl
length_numbers (b ∷ []) = refl
length_numbers (b ∷ c ∷ bs) = omega (arith, length_numbers bs)

first_number : (bs : List ℕ) → 2 ≤ length bs → numbers_in bs ≡ (get_or bs 0 0 * 256 + get_or bs 1 0) ∷ numbers_in (drop 2 bs)
first_number [] l = absurd (omega arith)
first_number (b ∷ []) l = absurd (omega arith)
first_number (b ∷ c ∷ bs) l = refl

-- the number at byte a stands before those from byte a + 2 on
pub numbers_from_lem : (a : ℕ) (bs : List ℕ) → a + 2 ≤ length bs → numbers_in (drop a bs) ≡ (get_or bs a 0 * 256 + get_or bs (a + 1) 0) ∷ numbers_in (drop (a + 2) bs)
numbers_from_lem zero bs l = first_number bs (omega arith)
numbers_from_lem (suc a) [] l = absurd (omega arith)
numbers_from_lem (suc a) (b ∷ bs) l =
    let e : suc a + 1 ≡ suc (a + 1) = omega arith in
    let f : suc a + 2 ≡ suc (a + 2) = omega arith in
    rw (e, f) (numbers_from_lem a bs (omega arith))

-- number i is in bytes 2 i and 2 i + 1
pub number_at : (bs : List ℕ) (i : ℕ) → 2 * i + 2 ≤ length bs → get_or (numbers_in bs) i 0 ≡ get_or bs (2 * i) 0 * 256 + get_or bs (2 * i + 1) 0
number_at [] i l = absurd (omega arith)
number_at (b ∷ []) i l = absurd (omega arith)
number_at (b ∷ c ∷ bs) zero l = refl
number_at (b ∷ c ∷ bs) (suc i) l =
    let e : 2 * suc i ≡ suc (suc (2 * i)) = omega arith in
    let f : suc (suc (2 * i)) + 1 ≡ suc (suc (2 * i + 1)) = omega arith in
    rw (e, f) (number_at bs i (omega arith))

-- ---- written and read

pub numbers_written : (ns : List ℕ) → numbers_in (joined two ns) ≡ ns
numbers_written [] = refl
numbers_written (n ∷ ns) =
    let e : n / 256 * 256 + n % 256 ≡ n = omega arith in
    ap₂ (λ (m : ℕ) (ms : List ℕ). m ∷ ms) e (numbers_written ns)

pub written_numbers : (bs : List ℕ) → length bs % 2 ≡ 0 → All Byte bs → joined two (numbers_in bs) ≡ bs
written_numbers [] e h = refl
written_numbers (b ∷ []) e h = absurd (omega arith)
written_numbers (b ∷ c ∷ bs) e h =
    let l : c < 256 = h.1.0 in
    let x : (b * 256 + c) / 256 ≡ b = omega arith in
    let y : (b * 256 + c) % 256 ≡ c = omega arith in
    rw (x, y) (ap (λ (r : List ℕ). b ∷ c ∷ r) (written_numbers bs (omega arith) h.1.1))

-- bytes make numbers of 16 bits
pub numbers_small : (bs : List ℕ) → All Byte bs → All (λ n. n < 65536) (numbers_in bs)
numbers_small [] h = tt
numbers_small (b ∷ []) h = tt
numbers_small (b ∷ c ∷ bs) h =
    let k : b < 256 = h.0 in
    let l : c < 256 = h.1.0 in
    (omega arith, numbers_small bs h.1.1)
