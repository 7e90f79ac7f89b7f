-- A block is given its bits, in whole bytes, and has to use them up. This file holds what each kind of block reads; BlockLaws has
-- what it writes and its laws.
use Rattle.std.specs.Prelude.{◌≡◌, ℕ, zero, suc, ◌+◌, ◌-◌, ◌*◌, ◌%◌, Bool, true, false, List, [], ◌∷◌, length, take, drop, leb, ltb}
use Rattle.std.proofs.Math.Option.{Option, none, some}
use Rattle.bits.specs.Choice.{pick}
use Rattle.bits.specs.Bits.{Bits}
use Rattle.bits.specs.Codec.{Read, got, refused, next, at_start, Codec}

pub record Block (A : Type 0) : Type 1 where
  pub Fits : A → Type 0
  pub enc : A → Bits
  pub dec : Bits → Read Bool A
  -- it has whole bytes
  pub bytes : (a : A) → length (enc a) % 8 ≡ 0
  pub there : (a : A) → Fits a → dec (enc a) ≡ got a []
  pub back : (s : Bits) (a : A) → length s % 8 ≡ 0 → dec s ≡ got a [] → Fits a × (s ≡ enc a)
  -- it is used up
  pub all : (s : Bits) (a : A) (r : Bits) → dec s ≡ got a r → r ≡ []

-- so few bits may be left over: 0 to 7
abbrev pub few : ℕ → Bool
few n = ltb n 8

-- the rest is zero bits; e is the refusal at the first that is not
abbrev pub zeros_dec : ℕ → Bits → Read Bool (Unit {0})
zeros_dec e [] = got tt []
zeros_dec e (false ∷ s) = zeros_dec e s
zeros_dec e (true ∷ s) = refused e (suc (length s))

-- Values of c, at most n: while 8 or more bits are left, another must be there; the last 0 to 7 bits are zero. bad is the refusal
-- of a padding that is not zero, over that of more than n values.
module _ {A : Type 0} (c : Codec Bool A) (bad over : ℕ) where
  abbrev pub last_bits : Bits → Read Bool (List A)
  last_bits s = next (zeros_dec bad s) (λ u r. got [] r)

  abbrev pub many_dec : ℕ → Bits → Read Bool (List A)
  many_dec zero s = pick (few (length s)) (last_bits s) (refused over (length s))
  many_dec (suc n) s = pick (few (length s)) (last_bits s) (next (c.dec s) (λ x r. next (many_dec n r) (λ xs q. got (x ∷ xs) q)))

-- one value, then 0 to 7 zero bits; where eight or more are left and all are zero, the eighth is at fault
module _ {A : Type 0} (c : Codec Bool A) (bad : ℕ) where
  abbrev pub end_dec : A → Bits → Read Bool A
  end_dec a r = next (zeros_dec bad r) (λ u q. pick (few (length r)) (got a []) (refused bad (length r - 7)))

  unfoldable pub ended_dec : Bits → Read Bool A
  ended_dec s = next (c.dec s) end_dec

-- a block that may be empty: then there is no value
module _ {A : Type 0} (w : Block A) where
  abbrev pub maybe_dec : Bits → Read Bool (Option A)
  maybe_dec [] = got none []
  maybe_dec (b ∷ s) = next (w.dec (b ∷ s)) (λ a r. got (some a) r)

-- values that fill the block, at most n; a block's length in bits is always enough, and e is the refusal of more
module _ {A : Type 0} (c : Codec Bool A) (e : ℕ) where
  abbrev pub fill_dec : ℕ → Bits → Read Bool (List A)
  fill_dec zero [] = got [] []
  fill_dec zero (b ∷ s) = refused e (suc (length s))
  fill_dec (suc n) [] = got [] []
  fill_dec (suc n) (b ∷ s) = next (c.dec (b ∷ s)) (λ x r. next (fill_dec n r) (λ xs q. got (x ∷ xs) q))

-- the answer of a block, with q behind it
abbrev pub inside : {A : Type 0} → Bits → Read Bool A → Read Bool A
inside q (got a r) = got a q
inside q (refused e l) = refused e (l + length q)

-- a block of n bytes; e is the refusal where fewer are left, at its first bit
module _ {A : Type 0} (w : Block A) (e n : ℕ) where
  unfoldable pub sized_dec : Bits → Read Bool A
  sized_dec s = pick (leb (8 * n) (length s)) (inside (drop (8 * n) s) (w.dec (take (8 * n) s))) (refused e (length s))

-- a codec, then a block to the end that may look at the codec's value
module _ {A B : Type 0} (c : Codec Bool A) (w : A → Block B) where
  unfoldable pub ahead_dec : Bits → Read Bool (A × B)
  ahead_dec s = next (c.dec s) (λ a r. next ((w a).dec r) (λ b q. got (a, b) q))

-- only the values that pass a test; e is the refusal of the others
module _ {A : Type 0} (w : Block A) (e : ℕ) (t : A → Bool) where
  unfoldable pub pass_dec : Bits → Read Bool A
  pass_dec s = next (w.dec s) (λ a r. pick (t a) (got a r) (refused e (length s)))

-- the same, as values of another type
module _ {A B : Type 0} (w : Block A) (f : A → B) where
  unfoldable pub recast_dec : Bits → Read Bool B
  recast_dec s = next (w.dec s) (λ a r. got (f a) r)

-- nothing may be left; e is the refusal, at the first bit that is
abbrev pub used_up : {A : Type 0} → (e : ℕ) → A → Bits → Read Bool A
used_up e a [] = got a []
used_up e a (b ∷ s) = refused e (suc (length s))

-- one value and nothing behind it
module _ {A : Type 0} (c : Codec Bool A) (e : ℕ) where
  unfoldable pub exact_dec : Bits → Read Bool A
  exact_dec s = next (c.dec s) (used_up e)

-- what the block v refuses is refused before all that w does, at the first bit
module _ {A B : Type 0} (v : Block A) (w : Block B) where
  unfoldable pub sifted_dec : Bits → Read Bool B
  sifted_dec s = next (at_start (length s) (v.dec s)) (λ a r. w.dec s)
