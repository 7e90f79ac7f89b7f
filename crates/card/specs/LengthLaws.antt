-- The laws of a data object's length: a length and its parts go over into each other, and it has whole bytes.
use Rattle.std.specs.Prelude.{◌≡◌, refl, ℕ, ◌%◌, ◌^◌, ◌≤◌, ◌<◌, length, T, ltb, eqb}
use Rattle.std.proofs.Common.{sym, ap, ◌∙◌, subst, arith, length-append, le→leb, leb→le}
use Rattle.std.proofs.Math.Facts.{yes_ltb, no_ltb}
use Rattle.bits.specs.ChoiceLaws.{pick_yes, pick_no, pick_case, T_true, T_false, eqb_false, split, eq_split}
use Rattle.bits.specs.BitsLaws.{length_bits}
use Rattle.bits.specs.CodecLaws.{Matches}
use Rattle.card.specs.LengthParts.{first_ok, bits_behind, least_behind, length_parts, make_length, by_form, parts_of_length}

-- ---- a length has one of three forms

pub forms {ℓ} : {X : Type ℓ} (n : ℕ) → (n < 128 → X) → (128 ≤ n → n < 256 → X) → (256 ≤ n → X) → X
forms n f g h = split 128 n (λ l. split 256 n h (λ k. g l k)) f

module _ {A : Type 0} (n : ℕ) (x y z : A) where
  pub form_one : n < 128 → by_form n x y z ≡ x
  form_one h = pick_yes (ltb n 128) _ _ (yes_ltb h)

  pub form_81 : 128 ≤ n → n < 256 → by_form n x y z ≡ y
  form_81 l h = pick_no (ltb n 128) _ _ (no_ltb l) ∙ pick_yes (ltb n 256) _ _ (yes_ltb h)

  pub form_82 : 256 ≤ n → by_form n x y z ≡ z
  form_82 l = pick_no (ltb n 128) _ _ (no_ltb {a = n} (omega arith)) ∙ pick_no (ltb n 256) _ _ (no_ltb l)

pub short_parts : (n : ℕ) → n < 128 → parts_of_length n ≡ (n, 0)
short_parts n h = form_one n _ _ _ h

pub middle_parts : (n : ℕ) → 128 ≤ n → n < 256 → parts_of_length n ≡ (0x81, n)
middle_parts n l h = form_81 n _ _ _ l h

pub long_parts : (n : ℕ) → 256 ≤ n → parts_of_length n ≡ (0x82, n)
long_parts n l = form_82 n _ _ _ l

-- ---- and so has its first byte

pub firsts {ℓ} : {X : Type ℓ} (first : ℕ) → T (first_ok first) → (first < 128 → X) → (first ≡ 0x81 → X) → (first ≡ 0x82 → X) → X
firsts first t f g h =
    split 128 first
    (λ l. eq_split first 0x81 g λ a. eq_split first 0x82 h λ b.
    absurd (rw (T_false (ltb first 128) (no_ltb l), eqb_false first 0x81 a, eqb_false first 0x82 b) at t))
    f

pub short_first : (first : ℕ) → first < 128 → T (first_ok first)
short_first first h = rw (T_true (ltb first 128) (yes_ltb h)) tt

pub short_bits : (first : ℕ) → first < 128 → bits_behind first ≡ 0
short_bits first h = pick_yes (ltb first 128) 0 _ (yes_ltb h)

pub short_least : (first : ℕ) → first < 128 → least_behind first ≡ 0
short_least first h = pick_yes (ltb first 128) 0 _ (yes_ltb h)

-- ---- which parts fit

short_fits : (n : ℕ) → n < 128 → length_parts.Fits (n, 0)
short_fits n h = ((omega arith, short_first n h), rw (short_bits n h, short_least n h) (omega arith, tt))

length_fits : (n : ℕ) → n < 2 ^ 16 → length_parts.Fits (parts_of_length n)
length_fits n h =
    forms n
    (λ l. subst length_parts.Fits (sym (short_parts n l)) (short_fits n l))
    (λ l k. subst length_parts.Fits (sym (middle_parts n l k)) ((omega arith, tt), (omega arith, le→leb 128 n l)))
    (λ l. subst length_parts.Fits (sym (long_parts n l)) ((omega arith, tt), (omega arith, le→leb 256 n l)))

length_same : (n : ℕ) → make_length (parts_of_length n) ≡ n
length_same n =
    forms n
    (λ l. ap make_length (short_parts n l) ∙ pick_yes (ltb n 128) n 0 (yes_ltb l))
    (λ l k. ap make_length (middle_parts n l k))
    (λ l. ap make_length (long_parts n l))

length_allowed : (t : ℕ × ℕ) → length_parts.Fits t → make_length t < 2 ^ 16
length_allowed (first, n) h =
    firsts first h.0.1
    (λ l. rw (pick_yes (ltb first 128) first n (yes_ltb l)) (omega arith))
    (λ e. let f : length_parts.Fits (0x81, n) = subst (λ (x : ℕ). length_parts.Fits (x, n)) e h in
    rw e (omega (arith, f.1.0)))
    (λ e. let f : length_parts.Fits (0x82, n) = subst (λ (x : ℕ). length_parts.Fits (x, n)) e h in
    rw e (omega (arith, f.1.0)))

length_again : (t : ℕ × ℕ) → length_parts.Fits t → parts_of_length (make_length t) ≡ t
length_again (first, n) h =
    firsts first h.0.1
    (λ l. let z : n < 1 = rw (short_bits first l) at h.1.0 in
    let y : 0 ≡ n = omega arith in
    ap parts_of_length (pick_yes (ltb first 128) first n (yes_ltb l)) ∙ short_parts first l ∙ ap (λ (m : ℕ). (first, m)) y)
    (λ e. let f : length_parts.Fits (0x81, n) = subst (λ (x : ℕ). length_parts.Fits (x, n)) e h in
    subst (λ (x : ℕ). parts_of_length (make_length (x, n)) ≡ (x, n)) (sym e) (middle_parts n (leb→le 128 n f.1.1) f.1.0))
    (λ e. let f : length_parts.Fits (0x82, n) = subst (λ (x : ℕ). length_parts.Fits (x, n)) e h in
    subst (λ (x : ℕ). parts_of_length (make_length (x, n)) ≡ (x, n)) (sym e) (long_parts n (leb→le 256 n f.1.1)))

pub length_matches : Matches length_parts.Fits make_length parts_of_length (λ n. n < 2 ^ 16)
length_matches = record { fits = length_fits; same = λ n h. length_same n; allowed = length_allowed; again = length_again }

-- ---- whole bytes

pub parts_whole : (t : ℕ × ℕ) → length (length_parts.enc t) % 8 ≡ 0
parts_whole (first, n) =
    let z : bits_behind first % 8 ≡ 0 = pick_case (λ (k : ℕ). k % 8 ≡ 0) (ltb first 128) 0 _ (λ _. refl) (λ _. pick_case (λ (k : ℕ). k % 8 ≡ 0) (eqb first 0x81) 8 16 (λ _. refl) (λ _. refl)) in
    simp (length-append, length_bits) (omega arith)
