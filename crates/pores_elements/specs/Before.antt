-- A value whose end is told by what follows it: a list that goes on up to where a test holds of the bits that are left. So it is no
-- codec: what is written is read only where the test holds behind it. This file holds what each way of putting together reads;
-- BeforeLaws has what it writes and its laws.
use Rattle.std.specs.Prelude.{◌≡◌, ℕ, zero, suc, Bool, List, [], ◌∷◌, ◌++◌, length, T}
use Rattle.bits.specs.Choice.{pick}
use Rattle.bits.specs.Bits.{Bits}
use Rattle.bits.specs.Codec.{Read, got, refused, next, Codec}
use Rattle.bits.specs.Block.{few, zeros_dec}

pub record Before (stop : Bits → Bool) (A : Type 0) : Type 1 where
  pub Fits : A → Type 0
  pub enc : A → Bits
  pub dec : Bits → Read Bool A
  -- what is written is read, before what stops it
  pub there : (a : A) (r : Bits) → Fits a → T (stop r) → dec (enc a ++ r) ≡ got a r
  -- what is read was written
  pub back : (s : Bits) (a : A) (r : Bits) → dec s ≡ got a r → Fits a × (s ≡ enc a ++ r)

-- values up to where stop holds, at most n; bad is the refusal of more
module _ {A : Type 0} (c : Codec Bool A) (stop : Bits → Bool) (bad : ℕ) where
  abbrev pub until_dec : ℕ → Bits → Read Bool (List A)
  until_dec zero s = pick (stop s) (got [] s) (refused bad (length s))
  until_dec (suc n) s = pick (stop s) (got [] s) (next (c.dec s) (λ x r. next (until_dec n r) (λ xs q. got (x ∷ xs) q)))

-- a mark, then the value
module _ {A : Type 0} {stop : Bits → Bool} (m : Codec Bool (Unit {0})) (b : Before stop A) where
  unfoldable pub marked_dec : Bits → Read Bool A
  marked_dec s = next (m.dec s) (λ u r. b.dec r)

-- n values, one after another
module _ {A : Type 0} {stop : Bits → Bool} (b : Before stop A) where
  abbrev pub row_dec : ℕ → Bits → Read Bool (List A)
  row_dec zero s = got [] s
  row_dec (suc n) s = next (b.dec s) (λ x r. next (row_dec n r) (λ xs q. got (x ∷ xs) q))

-- one value, then 0 to 7 zero bits; bad is the refusal of others
module _ {A : Type 0} {stop : Bits → Bool} (b : Before stop A) (bad : ℕ) where
  unfoldable pub closed_dec : Bits → Read Bool A
  closed_dec s = next (b.dec s) (λ a r. next (zeros_dec bad r) (λ u q. pick (few (length r)) (got a []) (refused bad (length r))))
