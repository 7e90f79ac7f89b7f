-- The laws of a trail: the first heading is the nearest, each code but a level turn is added to the heading modulo 2N, and every number
-- of a trail is small.
use mathlib.Core.Path.{◌≡◌, sym, ap, ◌∙◌}
use Prim.Native.Nat.{ℕ, ◌+◌, ◌-◌, ◌*◌, ◌%◌, ◌^◌, ◌≤◌, ◌<◌}
use native.Mathlib.Omega.{arith}
use native.Mathlib.Nat.{add-mul, one-mul, mul_left_comm, mod-lt, mod-add-mod, add-mul-mod_self_left, div-mul-le_self, lt-div-mul-add, div-eq_of_lt-le}
use mathlib.Core.Bool.{Bool, true, false, not}
use mathlib.Core.List.{List, [], ◌∷◌}
use lib.Dec.{T, ltb}
use lib.Pow.{pow_pos}
use Rattle.bits.specs.Choice.{pick}
use Rattle.bits.specs.ChoiceLaws.{pick_yes, pick_no, pick_case}
use Rattle.bits.specs.Lists.{All}
use Rattle.bits.specs.ListsLaws.{all_append}
use Rattle.bits.specs.Bits.{val}
use Rattle.trail.specs.Trail.{nearest, Nearest, first_heading, turns_level, turned, new_heading, follow}

-- ---- the first heading

-- the formula gives the nearest number
pub nearest_near : (a m : ℕ) → 0 < m → Nearest a m (nearest a m)
nearest_near a m p =
    let l : nearest a m * (2 * m) ≤ 2 * a + m = div-mul-le_self (2 * a + m) (2 * m) in
    let g : 2 * a + m < nearest a m * (2 * m) + 2 * m = lt-div-mul-add (omega arith) in
    let e : nearest a m * (2 * m) ≡ 2 * (nearest a m * m) = mul_left_comm (nearest a m) 2 m in
    record { above = omega (arith, l, e); below = omega (arith, g, e) }

-- and there is no other
pub nearest_only : (a m h : ℕ) → Nearest a m h → h ≡ nearest a m
nearest_only a m h r =
    let e : (h + 1) * (2 * m) ≡ h * (2 * m) + 2 * m = add-mul h 1 (2 * m) ∙ ap (λ (x : ℕ). h * (2 * m) + x) (one-mul (2 * m)) in
    let f : h * (2 * m) ≡ 2 * (h * m) = mul_left_comm h 2 m in
    sym (div-eq_of_lt-le (2 * m) (omega (arith, r.above, f)) (omega (arith, r.below, f, e)))

-- of headings: there is a nearest to each start direction
pub heading_near : (n b direction : ℕ) → Nearest (direction * (2 * n)) (2 ^ b) (nearest (direction * (2 * n)) (2 ^ b))
heading_near n b direction = nearest_near (direction * (2 * n)) (2 ^ b) (pow_pos b)

-- and the first heading is that number modulo 2N
pub first_nearest : (n b direction h : ℕ) → Nearest (direction * (2 * n)) (2 ^ b) h → first_heading n b direction ≡ h % (2 * n)
first_nearest n b direction h r = ap (λ (x : ℕ). x % (2 * n)) (sym (nearest_only (direction * (2 * n)) (2 ^ b) h r))

pub first_small : (n b direction : ℕ) → 0 < n → first_heading n b direction < 2 * n
first_small n b direction p = mod-lt _ (omega arith)

-- ---- its codes

-- a code that is not negative is added
pub turned_up : (n k heading code : ℕ) → T (ltb code (2 ^ (k - 1))) → turned n k heading code ≡ (heading + code) % (2 * n)
turned_up n k heading code t =
    let e : heading + code + 0 ≡ heading + code = omega arith in
    ap (λ (x : ℕ). (heading + code + x) % (2 * n)) (pick_yes (ltb code (2 ^ (k - 1))) _ _ t) ∙ ap (λ (x : ℕ). x % (2 * n)) e

-- a negative one is 2 to the k less: adding that again gives the sum
pub turned_down : (n k heading code : ℕ) → 0 < n → T (not (ltb code (2 ^ (k - 1)))) → (turned n k heading code + 2 ^ k) % (2 * n) ≡ (heading + code) % (2 * n)
turned_down n k heading code p t =
    let m : ℕ = 2 ^ k in
    let e : (2 * n - 1) * m + m ≡ 2 * n * m = sym (ap (λ (x : ℕ). (2 * n - 1) * m + x) (one-mul m)) ∙ sym (add-mul (2 * n - 1) 1 m) ∙ ap (λ (x : ℕ). x * m) (omega arith) in
    let z : heading + code + (2 * n - 1) * m + m ≡ heading + code + 2 * n * m = omega arith in
    ap (λ (x : ℕ). ((heading + code + x) % (2 * n) + m) % (2 * n)) (pick_no (ltb code (2 ^ (k - 1))) _ _ t)
    ∙ mod-add-mod (heading + code + (2 * n - 1) * m) (2 * n) m ∙ ap (λ (x : ℕ). x % (2 * n)) z ∙ add-mul-mod_self_left (heading + code) (2 * n) m

heading_small : (n k heading code : ℕ) → 0 < n → heading < 2 * n → new_heading n k heading code < 2 * n
heading_small n k heading code p h =
    let m : turned n k heading code < 2 * n = mod-lt _ (omega arith) in
    pick_case (λ (x : ℕ). x < 2 * n) (turns_level k code) _ _ (λ t. omega arith) (λ t. omega arith)

-- every number of a trail is below 4N
pub trail_small : (n k : ℕ) (high : Bool) (heading : ℕ) (codes : List ℕ) → 0 < n → heading < 2 * n → All (λ x. x < 4 * n) (follow n k high heading codes)
trail_small n k high heading [] p h = tt
trail_small n k high heading (c ∷ cs) p h =
    let now : ℕ = new_heading n k heading c in
    let l : now < 2 * n = heading_small n k heading c p h in
    let v : val high ≤ 1 = one high in
    all_append (λ x. x < 4 * n) (pick (turns_level k c) [] ((2 * now + val high) ∷ [])) _
    (pick_case (All (λ x. x < 4 * n)) (turns_level k c) [] _ (λ t. tt) (λ t. (omega arith, tt)))
    (trail_small n k (pick (turns_level k c) (not high) high) now cs p l)
  where
    one : (b : Bool) → val b ≤ 1
    one true = omega arith
    one false = omega arith
