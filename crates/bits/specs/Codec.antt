-- A format is written once, as a codec: which values fit, how one is written, how one is read off the front of a list, and the
-- two laws that tie them. Codecs are put together from smaller ones. This file holds what each way of putting together reads;
-- CodecLaws has what it writes and its laws.
use Rattle.std.specs.Prelude.{◌≡◌, ℕ, zero, suc, ◌-◌, Bool, List, [], ◌∷◌, ◌++◌, length, take, drop, leb}
use Rattle.std.proofs.Math.Option.{Option, none, some}
use Rattle.bits.specs.Choice.{pick}
use Rattle.bits.specs.Bits.{Bits, number_of_bits}

-- What reading gives: a value and what is left; or a refusal: its number, and how much was left at the first bit of what fails.
-- The place of a refusal is then the whole length minus that.
pub data Read (S A : Type 0) : Type 0 where
  got : A → List S → Read S A
  refused : ℕ → ℕ → Read S A

abbrev pub next : {S A B : Type 0} → Read S A → (A → List S → Read S B) → Read S B
next (got a r) f = f a r
next (refused e l) f = refused e l

-- the value alone, where what is left and why it is refused do not matter
abbrev pub value_of : {S A : Type 0} → Read S A → Option A
value_of (got a r) = some a
value_of (refused e l) = none

pub record Codec (S A : Type 0) : Type 1 where
  pub Fits : A → Type 0
  pub enc : A → List S
  pub dec : List S → Read S A
  -- what is written is read, whatever follows
  pub there : (a : A) (r : List S) → Fits a → dec (enc a ++ r) ≡ got a r
  -- what is read was written
  pub back : (s : List S) (a : A) (r : List S) → dec s ≡ got a r → Fits a × (s ≡ enc a ++ r)

-- a number of w bits; e is the refusal where fewer are left
abbrev pub field_dec : ℕ → ℕ → Bits → Read Bool ℕ
field_dec e w s = pick (leb w (length s)) (got (number_of_bits (take w s)) (drop w s)) (refused e (length s))

-- one codec, then another that may look at the first's value
module _ {S A B : Type 0} (c : Codec S A) (d : A → Codec S B) where
  unfoldable pub then_dec : List S → Read S (A × B)
  then_dec s = next (c.dec s) (λ a r. next ((d a).dec r) (λ b q. got (a, b) q))

-- n values, one after another
module _ {S A : Type 0} (c : Codec S A) where
  abbrev pub times_dec : ℕ → List S → Read S (List A)
  times_dec zero s = got [] s
  times_dec (suc n) s = next (c.dec s) (λ x r. next (times_dec n r) (λ xs q. got (x ∷ xs) q))

-- n values, each by the codec that the values before it call for: i is what they say, and m tells it one more
module _ {S A I : Type 0} (c : I → Codec S A) (m : I → A → I) where
  abbrev pub along_dec : ℕ → I → List S → Read S (List A)
  along_dec zero i s = got [] s
  along_dec (suc n) i s = next ((c i).dec s) (λ x r. next (along_dec n (m i x) r) (λ xs q. got (x ∷ xs) q))

-- the same, as values of another type
module _ {S A B : Type 0} (c : Codec S A) (f : A → B) where
  unfoldable pub via_dec : List S → Read S B
  via_dec s = next (c.dec s) (λ a r. got (f a) r)

-- only the values that pass a test; e is the refusal of the others, at the value's first bit
module _ {S A : Type 0} (c : Codec S A) (e : ℕ) (t : A → Bool) where
  unfoldable pub only_dec : List S → Read S A
  only_dec s = next (c.dec s) (λ a r. pick (t a) (got a r) (refused e (length s)))

abbrev pub sound : {S A : Type 0} → Option ℕ → (ℕ → Read S A) → Read S A → Read S A
sound none f o = o
sound (some d) f o = f d

-- only the values without a fault; a fault is how far behind the value's first bit the field at fault starts
module _ {S A : Type 0} (c : Codec S A) (e : ℕ) (t : A → Option ℕ) where
  unfoldable pub judged_dec : List S → Read S A
  judged_dec s = next (c.dec s) (λ a r. sound (t a) (λ d. refused e (length s - d)) (got a r))

abbrev pub at_start : {S A : Type 0} → ℕ → Read S A → Read S A
at_start n (got a r) = got a r
at_start n (refused e l) = refused e n

-- a refusal inside is one of the whole: its place is the first bit
module _ {S A : Type 0} (c : Codec S A) where
  unfoldable pub whole_dec : List S → Read S A
  whole_dec s = at_start (length s) (c.dec s)

-- n bits must be left before c starts; e is the refusal of fewer
module _ {A : Type 0} (c : Codec Bool A) (e n : ℕ) where
  unfoldable pub room_dec : Bits → Read Bool A
  room_dec s = pick (leb n (length s)) (c.dec s) (refused e (length s))
