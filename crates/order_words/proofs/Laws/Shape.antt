-- The shape of a list of pairs: what it says of the list's words, and its test, word by word.
use mathlib.Core.Path.{◌≡◌, refl, ap, ◌∙◌}
use mathlib.Core.Logic.{◌≢◌}
use Prim.Native.Nat.{ℕ, zero, suc, ◌+◌, ◌*◌, ◌/◌, ◌%◌, ◌≤◌, ◌<◌}
use native.Mathlib.Omega.{arith}
use mathlib.Core.Bool.{Bool, true, false, not, ◌&&◌}
use mathlib.Core.List.{List, [], ◌∷◌}
use lib.ListN.{length, drop, drop_of_length-le}
use lib.Dec.{T, eqb, leb}
use mir.Facts.{and_yes, eqb_yes, leb_yes, yes_leb, no_eqb, no_leb}
use Rattle.bits.specs.ChoiceLaws.{T_true, T_false, not_first, not_second, eqb_true}
use Rattle.bits.specs.Lists.{every, empty?}
use Rattle.orders.specs.Listed.{numbers_in, threes, words, shape_ok}
use Rattle.order_words.proofs.Laws.Listed.{two, words_long}

-- ---- a list that has it

-- whole words, at least one, and each has a place
pub record Shaped (list : List ℕ) : Type 0 where
  pub whole : length list ≡ 6 * length (words list)
  pub some : 0 < length (words list)
  pub few : length (words list) ≤ 4294967296

pub shaped : (list : List ℕ) → T (shape_ok list) → Shaped list
unfolding shape_ok
shaped list t =
    let n : ℕ = length list in
    let (abc, d) = and_yes (not (empty? list) && eqb (n % 6) 0 && leb n (6 * 4294967296)) _ t in
    let (ab, c) = and_yes (not (empty? list) && eqb (n % 6) 0) (leb n (6 * 4294967296)) abc in
    let (a, b) = and_yes (not (empty? list)) (eqb (n % 6) 0) ab in
    let z : n % 6 ≡ 0 = eqb_yes b in
    let y : n ≤ 6 * 4294967296 = leb_yes c in
    let x : 0 < n = some_there list a in
    record { whole = omega (arith, words_long list); some = omega (arith, words_long list); few = omega (arith, words_long list) }
  where
    some_there : (bs : List ℕ) → T (not (empty? bs)) → 0 < length bs
    some_there [] t = absurd t
    some_there (b ∷ bs) t = omega arith

-- ---- the test

-- each first number is 0 or 1
abbrev kinds : List ℕ → Bool
kinds bs = every (λ t. leb t.0 1) (threes (numbers_in bs))

first_three : (bs : List ℕ) → 6 ≤ length bs → threes (numbers_in bs) ≡ (two bs 0, two bs 2, two bs 4) ∷ threes (numbers_in (drop 6 bs))
first_three [] l = absurd (omega arith)
first_three (a ∷ []) l = absurd (omega arith)
first_three (a ∷ b ∷ []) l = absurd (omega arith)
first_three (a ∷ b ∷ c ∷ []) l = absurd (omega arith)
first_three (a ∷ b ∷ c ∷ d ∷ []) l = absurd (omega arith)
first_three (a ∷ b ∷ c ∷ d ∷ e ∷ []) l = absurd (omega arith)
first_three (a ∷ b ∷ c ∷ d ∷ e ∷ f ∷ bs) l = refl

-- the numbers of the order at byte a stand before those from byte a + 6 on
threes_from : (a : ℕ) (bs : List ℕ) → a + 6 ≤ length bs
    → threes (numbers_in (drop a bs)) ≡ (two bs a, two bs (a + 2), two bs (a + 4)) ∷ threes (numbers_in (drop (a + 6) bs))
threes_from zero bs l = first_three bs (omega arith)
threes_from (suc a) [] l = absurd (omega arith)
threes_from (suc a) (b ∷ bs) l =
    let x : suc a + 2 ≡ suc (a + 2) = omega arith in
    let y : suc a + 4 ≡ suc (a + 4) = omega arith in
    let z : suc a + 6 ≡ suc (a + 6) = omega arith in
    rw (x, y, z, behind a, behind (a + 2), behind (a + 4)) (threes_from a bs (omega arith))
  where
    behind : (n : ℕ) → two (b ∷ bs) (suc n) ≡ two bs n
    behind n = let z : suc n + 1 ≡ suc (n + 1) = omega arith in rw z

pub shape_none : (bs : List ℕ) → length bs ≡ 0 → shape_ok bs ≡ false
unfolding shape_ok
shape_none [] e = refl
shape_none (b ∷ bs) e = absurd (omega arith)

module _ (bs : List ℕ) where
  -- the tests before those of the numbers
  abbrev some? : Bool
  some? = not (empty? bs)

  abbrev whole? : Bool
  whole? = eqb (length bs % 6) 0

  abbrev few? : Bool
  few? = leb (length bs) (6 * 4294967296)

  pub shape_over : length bs % 6 ≢ 0 → shape_ok bs ≡ false
  unfolding shape_ok
  shape_over d =
      T_false (shape_ok bs) (not_first (some? && whole? && few?) (kinds bs)
      (not_first (some? && whole?) few? (not_second some? whole? (no_eqb d))))

  pub shape_many : 4294967296 < length bs / 6 → shape_ok bs ≡ false
  unfolding shape_ok
  shape_many l =
      let m : 6 * 4294967296 < length bs = omega arith in
      T_false (shape_ok bs) (not_first (some? && whole? && few?) (kinds bs) (not_second (some? && whole?) few? (no_leb m)))

-- the words from byte a on have still to be tested
pub record Shaping (bs : List ℕ) (a : ℕ) : Type 0 where
  pub whole : length bs % 6 ≡ 0
  pub here : a % 6 ≡ 0
  pub within : a ≤ length bs
  pub is : shape_ok bs ≡ every (λ t. leb t.0 1) (threes (numbers_in (drop a bs)))

pub shaping_start : (bs : List ℕ) → length bs ≢ 0 → length bs % 6 ≡ 0 → length bs / 6 ≤ 4294967296 → Shaping bs 0
unfolding shape_ok
shaping_start [] d e l = absurd (d refl)
shaping_start (b ∷ bs) d e l =
    let k : length (b ∷ bs) ≤ 6 * 4294967296 = omega arith in
    let m : leb (length (b ∷ bs)) (6 * 4294967296) ≡ true = T_true (leb (length (b ∷ bs)) (6 * 4294967296)) (yes_leb k) in
    record { whole = e; here = refl; within = omega arith; is = rw (eqb_true (length (b ∷ bs) % 6) 0 e, m) }

module _ {bs : List ℕ} {a x : ℕ} (t : Shaping bs a) (l : a < length bs) (e : x ≡ two bs a) where
  next_word : shape_ok bs ≡ (leb x 1 && kinds (drop (a + 6) bs))
  next_word = t.is ∙ ap (every (λ t. leb t.0 1)) (threes_from a bs (omega (arith, t.whole, t.here))) ∙ rw e

  pub shaping_other : 1 < x → shape_ok bs ≡ false
  shaping_other k = next_word ∙ rw (T_false (leb x 1) (no_leb k))

  pub shaping_next : x ≤ 1 → {b : ℕ} → b ≡ a + 6 → Shaping bs b
  shaping_next k z =
      rw z (record {
        whole = t.whole;
        here = omega (arith, t.here);
        within = omega (arith, t.whole, t.here);
        is = next_word ∙ rw (T_true (leb x 1) (yes_leb k));
      })

pub shaping_done : {bs : List ℕ} {a : ℕ} → Shaping bs a → length bs ≤ a → shape_ok bs ≡ true
shaping_done {bs} t l = t.is ∙ ap kinds (drop_of_length-le bs l)
