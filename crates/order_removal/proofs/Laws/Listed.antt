-- The test of a removal list, number by number, and what its bytes say where it is right.
use mathlib.Core.Path.{◌≡◌, refl, ap, ◌∙◌}
use mathlib.Core.Logic.{◌≢◌, ◌⊎◌, inl, inr}
use Prim.Native.Nat.{ℕ, suc, ◌+◌, ◌*◌, ◌%◌, ◌≤◌, ◌<◌}
use native.Mathlib.Omega.{arith}
use mathlib.Core.Bool.{Bool, true, false, ◌&&◌}
use mathlib.Core.List.{List, [], ◌∷◌}
use lib.ListN.{length, drop, get_or, drop_of_length-le}
use lib.Dec.{T, eqb, leb, ltb}
use mir.Facts.{yes_eqb, no_eqb, yes_leb, yes_ltb, no_leb, no_ltb}
use Rattle.bits.specs.ChoiceLaws.{pick_yes, pick_no, T_true, T_false, eq_split}
use Rattle.bits.specs.Lists.{All}
use Rattle.put_bytes.proofs.Numbers.{length_numbers, numbers_from_lem}
use Rattle.orders.specs.Survive.{at}
use Rattle.orders.specs.Listed.{numbers_in, removal_lines}
use Rattle.orders.specs.Order.{rises_ok, lines_ok}
use Rattle.orders.proofs.Laws.Renumber.{ok_lines}
use Rattle.order_removal.specs.Rank.{Rising}

pub listed_even : (bs : List ℕ) → length bs % 2 ≡ 0 → removal_lines bs ≡ numbers_in bs
listed_even bs e = pick_yes (eqb (length bs % 2) 0) _ _ (yes_eqb e)

-- ---- the test of a list

module _ (n : ℕ) where
  pub lines_none : (bs : List ℕ) → length bs ≡ 0 → lines_ok n (removal_lines bs) ≡ false
  lines_none [] e = refl
  lines_none (b ∷ bs) e = absurd (omega arith)

  pub lines_odd : (bs : List ℕ) → length bs % 2 ≢ 0 → lines_ok n (removal_lines bs) ≡ false
  lines_odd bs d = ap (lines_ok n) (pick_no (eqb (length bs % 2) 0) (numbers_in bs) [] (no_eqb d))

  module _ (m x : ℕ) (rs : List ℕ) where
    rise_low : x < m → rises_ok m n (x ∷ rs) ≡ false
    rise_low l = rw (T_false (leb m x) (no_leb l)) refl

    rise_high : n ≤ x → rises_ok m n (x ∷ rs) ≡ false
    rise_high l = rw (T_false (ltb x n) (no_ltb l)) (go (leb m x))
      where
        go : (b : Bool) → (b && false && rises_ok (suc x) n rs) ≡ false
        go true = refl
        go false = refl

    rise_next : m ≤ x → x < n → rises_ok m n (x ∷ rs) ≡ rises_ok (suc x) n rs
    rise_next l k = rw (T_true (leb m x) (yes_leb l), T_true (ltb x n) (yes_ltb k)) refl

  -- the numbers from byte a on have still to be tested; the next one must be at least m
  pub record Testing (bs : List ℕ) (m a : ℕ) : Type 0 where
    pub even : length bs % 2 ≡ 0
    pub whole : a % 2 ≡ 0
    pub within : a ≤ length bs
    pub is : lines_ok n (removal_lines bs) ≡ rises_ok m n (numbers_in (drop a bs))

  pub testing_start : (bs : List ℕ) → length bs ≢ 0 → length bs % 2 ≡ 0 → Testing bs 0 0
  testing_start [] d e = absurd (d refl)
  testing_start (b ∷ []) d e = absurd (omega arith)
  testing_start (b ∷ c ∷ bs) d e = record { even = e; whole = refl; within = omega arith; is = ap (lines_ok n) (listed_even (b ∷ c ∷ bs) e) }

  module _ {bs : List ℕ} {m a x : ℕ} (t : Testing bs m a) (l : a < length bs) (e : x ≡ get_or bs a 0 * 256 + get_or bs (a + 1) 0) where
    here : lines_ok n (removal_lines bs) ≡ rises_ok m n (x ∷ numbers_in (drop (a + 2) bs))
    here =
        let z : numbers_in (drop a bs) ≡ x ∷ numbers_in (drop (a + 2) bs) = rw e (numbers_from_lem a bs (omega (arith, t.even, t.whole))) in
        t.is ∙ ap (rises_ok m n) z

    pub testing_low : x < m → lines_ok n (removal_lines bs) ≡ false
    testing_low k = here ∙ rise_low m x (numbers_in (drop (a + 2) bs)) k

    pub testing_high : n ≤ x → lines_ok n (removal_lines bs) ≡ false
    testing_high k = here ∙ rise_high m x (numbers_in (drop (a + 2) bs)) k

    pub testing_bad : (x < m) ⊎ ((m ≤ x) × (n ≤ x)) → lines_ok n (removal_lines bs) ≡ false
    testing_bad (inl k) = testing_low k
    testing_bad (inr (l, k)) = testing_high k

    pub testing_next : m ≤ x → x < n → {b : ℕ} → b ≡ a + 2 → Testing bs (x + 1) b
    testing_next k j y =
        let z : x + 1 ≡ suc x = omega arith in
        rw y (record {
          even = t.even;
          whole = omega (arith, t.whole);
          within = omega (arith, t.even, t.whole);
          is = rw z (here ∙ rise_next m x (numbers_in (drop (a + 2) bs)) k j);
        })

  pub testing_done : {bs : List ℕ} {m a : ℕ} → Testing bs m a → length bs ≤ a → lines_ok n (removal_lines bs) ≡ true
  testing_done {bs} {m} {a} t l = t.is ∙ ap (λ (ys : List ℕ). rises_ok m n (numbers_in ys)) (drop_of_length-le bs l)

-- ---- a list that is right

pub lines_rise : (n : ℕ) (bs : List ℕ) → lines_ok n (removal_lines bs) ≡ true → Rising bs × All (λ r. r < n) (removal_lines bs)
lines_rise n bs e =
    eq_split (length bs % 2) 0
    (λ z. let (_, c, d) = ok_lines n (removal_lines bs) (rw e tt) in
    (record { even = rw (listed_even bs z) (omega (arith, length_numbers bs)); rises = c }, d))
    (λ z. let t : T (lines_ok n (removal_lines bs)) = rw e tt in absurd (rw (lines_odd n bs z) at t))

-- no bytes name no lines
pub none_listed : (bs : List ℕ) → length bs ≡ 0 → removal_lines bs ≡ []
none_listed [] h = refl
none_listed (b ∷ bs) h = absurd (omega arith)
