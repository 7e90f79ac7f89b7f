-- The laws of `pick`, and of the tests that it is given. They stand here once, so that no other file splits a Boolean by hand.
use Rattle.std.specs.Prelude.{◌≡◌, refl, ◌≢◌, ℕ, ◌≤◌, ◌<◌, Bool, true, false, not, ◌&&◌, T, leb, eqb}
use Rattle.std.proofs.Math.Decide.{dec_le, ℕ_discrete}
use Rattle.std.proofs.Common.{lt_of_not-le, leb→le, le→leb}
use Rattle.std.proofs.Math.Facts.{yes_eqb, no_eqb, no_leb, and_yes, yes_and}
use Rattle.bits.specs.Choice.{pick, within}

-- ---- pick

pub pick_yes : {A : Type 0} (b : Bool) (x y : A) → T b → pick b x y ≡ x
pick_yes true x y t = refl
pick_yes false x y t = absurd t

pub pick_no : {A : Type 0} (b : Bool) (x y : A) → T (not b) → pick b x y ≡ y
pick_no true x y t = absurd t
pick_no false x y t = refl

-- what holds of both ways holds of the one taken
pub pick_case {ℓ} : {A : Type 0} (P : A → Type ℓ) (b : Bool) (x y : A) → (T b → P x) → (T (not b) → P y) → P (pick b x y)
pick_case P true x y f g = f tt
pick_case P false x y f g = g tt

-- which way it went, with what follows
pub pick_split : {A : Type 0} {P : Type 0} {z : A} (t : Bool) (x y : A) → pick t x y ≡ z → (T t → x ≡ z → P) → (T (not t) → y ≡ z → P) → P
pick_split true x y p f g = f tt p
pick_split false x y p f g = g tt p

-- ---- tests

pub T_true : (b : Bool) → T b → b ≡ true
T_true true t = refl
T_true false t = absurd t

pub T_false : (b : Bool) → T (not b) → b ≡ false
T_false true t = absurd t
T_false false t = refl

-- two tests, of which one does not hold
pub not_first : (a b : Bool) → T (not a) → T (not (a && b))
not_first true b t = absurd t
not_first false b t = tt

pub not_second : (a b : Bool) → T (not b) → T (not (a && b))
not_second true b t = t
not_second false b t = tt

pub eqb_true : (a b : ℕ) → a ≡ b → eqb a b ≡ true
eqb_true a b e = T_true (eqb a b) (yes_eqb e)

pub eqb_false : (a b : ℕ) → a ≢ b → eqb a b ≡ false
eqb_false a b e = T_false (eqb a b) (no_eqb e)

pub within_low : (low high n : ℕ) → T (within low high n) → low ≤ n
within_low low high n t = leb→le low n (and_yes (leb low n) (leb n high) t).0

pub within_high : (low high n : ℕ) → T (within low high n) → n ≤ high
within_high low high n t = leb→le n high (and_yes (leb low n) (leb n high) t).1

pub within_yes : (low high n : ℕ) → low ≤ n → n ≤ high → T (within low high n)
within_yes low high n l h = yes_and (leb low n) (leb n high) (le→leb low n l) (le→leb n high h)

pub within_not_low : (low high n : ℕ) → n < low → T (not (within low high n))
within_not_low low high n h = not_first (leb low n) (leb n high) (no_leb h)

pub within_not_high : (low high n : ℕ) → high < n → T (not (within low high n))
within_not_high low high n h = not_second (leb low n) (leb n high) (no_leb h)

-- ---- numbers

pub split {ℓ} : {X : Type ℓ} (a b : ℕ) → (a ≤ b → X) → (b < a → X) → X
split a b f g = elim (dec_le a b) [ yes h ↦ f h | no h ↦ g (lt_of_not-le h) ]

pub eq_split {ℓ} : {X : Type ℓ} (a b : ℕ) → (a ≡ b → X) → (a ≢ b → X) → X
eq_split a b f g = elim (ℕ_discrete a b) [ yes h ↦ f h | no h ↦ g h ]
