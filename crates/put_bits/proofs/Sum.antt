-- Bits added to bits, no place with a one in both: the sum's number is the sum of the numbers, and its bytes are the sums of the
-- bytes. So a number is put into zeros by adding.
use mathlib.Core.Path.{◌≡◌, refl, ap, ap₂, ◌∙◌}
use Prim.Native.Nat.{ℕ, zero, suc, ◌+◌, ◌*◌, ◌%◌, ◌^◌, ◌≤◌, ◌<◌}
use native.Mathlib.Omega.{arith}
use native.Mathlib.Nat.{add-mul}
use mathlib.Core.List.{List, [], ◌∷◌, ◌++◌}
use lib.ListN.{length, take, drop, length-take}
use lib.Pow.{pow_mono}
use Rattle.bits.specs.Bits.{Bits, val, number_of_bits, zeros}
use Rattle.bits.specs.BitsLaws.{number_lt}
use Rattle.bits.specs.Bytes.{bytes_of}

-- zs has the ones of xs and those of ys
abbrev pub Sum : Bits → Bits → Bits → Type 0
Sum [] ys zs = (ys ≡ []) × (zs ≡ [])
Sum (x ∷ xs) [] zs = 1 ≤ 0
Sum (x ∷ xs) (y ∷ ys) [] = 1 ≤ 0
Sum (x ∷ xs) (y ∷ ys) (z ∷ zs) = (val z ≡ val x + val y) × Sum xs ys zs

-- ---- its parts

pub sum_append : (xs ys zs us vs ws : Bits) → Sum xs ys zs → Sum us vs ws → Sum (xs ++ us) (ys ++ vs) (zs ++ ws)
sum_append [] ys zs us vs ws (e, f) t = rw (e, f) t
sum_append (x ∷ xs) [] zs us vs ws s t = absurd (omega arith)
sum_append (x ∷ xs) (y ∷ ys) [] us vs ws s t = absurd (omega arith)
sum_append (x ∷ xs) (y ∷ ys) (z ∷ zs) us vs ws (e, s) t = (e, sum_append xs ys zs us vs ws s t)

sum_take : (n : ℕ) (xs ys zs : Bits) → Sum xs ys zs → Sum (take n xs) (take n ys) (take n zs)
sum_take zero xs ys zs s = (refl, refl)
sum_take (suc n) [] ys zs (e, f) = rw (e, f) (refl, refl)
sum_take (suc n) (x ∷ xs) [] zs s = absurd (omega arith)
sum_take (suc n) (x ∷ xs) (y ∷ ys) [] s = absurd (omega arith)
sum_take (suc n) (x ∷ xs) (y ∷ ys) (z ∷ zs) (e, s) = (e, sum_take n xs ys zs s)

sum_drop : (n : ℕ) (xs ys zs : Bits) → Sum xs ys zs → Sum (drop n xs) (drop n ys) (drop n zs)
sum_drop zero xs ys zs s = s
sum_drop (suc n) [] ys zs (e, f) = rw (e, f) (refl, refl)
sum_drop (suc n) (x ∷ xs) [] zs s = absurd (omega arith)
sum_drop (suc n) (x ∷ xs) (y ∷ ys) [] s = absurd (omega arith)
sum_drop (suc n) (x ∷ xs) (y ∷ ys) (z ∷ zs) (e, s) = sum_drop n xs ys zs s

-- ---- with zeros

pub sum_left : (ys : Bits) → Sum (zeros (length ys)) ys ys
sum_left [] = (refl, refl)
sum_left (y ∷ ys) = (omega arith, sum_left ys)

pub sum_right : (xs : Bits) → Sum xs (zeros (length xs)) xs
sum_right [] = (refl, refl)
sum_right (x ∷ xs) = (omega arith, sum_right xs)

-- ---- its number and its bytes

sum_long : (xs ys zs : Bits) → Sum xs ys zs → (length ys ≡ length xs) × (length zs ≡ length xs)
sum_long [] ys zs (e, f) = (ap length e, ap length f)
sum_long (x ∷ xs) [] zs s = absurd (omega arith)
sum_long (x ∷ xs) (y ∷ ys) [] s = absurd (omega arith)
sum_long (x ∷ xs) (y ∷ ys) (z ∷ zs) (e, s) = let (a, b) = sum_long xs ys zs s in (ap suc a, ap suc b)

together : (a b p n m : ℕ) → (a + b) * p + (n + m) ≡ (a * p + n) + (b * p + m)
together a b p n m = ap (λ (k : ℕ). k + (n + m)) (add-mul a b p) ∙ omega arith

sum_number : (xs ys zs : Bits) → Sum xs ys zs → number_of_bits zs ≡ number_of_bits xs + number_of_bits ys
unfolding number_of_bits
sum_number [] ys zs (e, f) = rw (e, f) refl
sum_number (x ∷ xs) [] zs s = absurd (omega arith)
sum_number (x ∷ xs) (y ∷ ys) [] s = absurd (omega arith)
sum_number (x ∷ xs) (y ∷ ys) (z ∷ zs) (e, s) =
    let (a, b) = sum_long xs ys zs s in
    rw (e, a, b, sum_number xs ys zs s) (together (val x) (val y) (2 ^ length xs) (number_of_bits xs) (number_of_bits ys))

byte_lt : (zs : Bits) → number_of_bits (take 8 zs) < 256
byte_lt zs = omega (arith, number_lt (take 8 zs), pow_mono {i = length (take 8 zs)} {j = 8} (omega (arith, length-take 8 zs)))

-- bytes added to bytes
abbrev pub added : List ℕ → List ℕ → List ℕ
added [] ns = []
added (a ∷ ms) [] = []
added (a ∷ ms) (b ∷ ns) = (a + b) % 256 ∷ added ms ns

pub sum_bytes : (n : ℕ) (xs ys zs : Bits) → Sum xs ys zs → bytes_of n zs ≡ added (bytes_of n xs) (bytes_of n ys)
unfolding bytes_of
sum_bytes zero xs ys zs s = refl
sum_bytes (suc n) xs ys zs s =
    ap₂ (λ (a : ℕ) (r : List ℕ). a ∷ r) (first (sum_take 8 xs ys zs s)) (sum_bytes n (drop 8 xs) (drop 8 ys) (drop 8 zs) (sum_drop 8 xs ys zs s))
  where
    first : Sum (take 8 xs) (take 8 ys) (take 8 zs) → number_of_bits (take 8 zs) ≡ (number_of_bits (take 8 xs) + number_of_bits (take 8 ys)) % 256
    first t = omega (arith, sum_number (take 8 xs) (take 8 ys) (take 8 zs) t, byte_lt zs)
