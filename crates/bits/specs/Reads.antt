-- What reading means for code that moves a place over a block of bytes: the value found and the place behind it, or a refusal and
-- its place. Places are bits from the block's start.
use Rattle.std.specs.Prelude.{◌≡◌, ℕ, ◌+◌, ◌-◌, ◌*◌, ◌≤◌, Bool, List, Result, Ok, Err, length, drop}
use Rattle.bits.specs.Lists.{total}
use Rattle.bits.specs.Bits.{Bits}
use Rattle.bits.specs.Bytes.{bits_of}
use Rattle.bits.specs.Codec.{Read, got, refused}
use Rattle.bits.specs.declared.Sure.{Sure}

pub data Found (A : Type 0) : Type 0 where
  found : A → ℕ → Found A
  fault : ℕ → ℕ → Found A

-- the same in the words of the formats
abbrev pub placed : {A : Type 0} → List ℕ → Found A → Read Bool A
placed s (found a p) = got a (drop p (bits_of s))
placed s (fault e p) = refused e (8 * length s - p)

abbrev pub place_found : {A : Type 0} → Found A → ℕ
place_found (found a p) = p
place_found (fault e p) = p

-- reading with d from place p of the block s finds r
pub record Reads {A : Type 0} (d : Bits → Read Bool A) (s : List ℕ) (p : ℕ) (r : Found A) : Type 0 where
  pub is : d (drop p (bits_of s)) ≡ placed s r
  pub within : place_found r ≤ 8 * length s

-- what a field read finds; e is the refusal where it passes the end, and of a byte that has a range where it is outside that, too
abbrev pub taken : ℕ → Result Sure ℕ → Found ℕ
taken e (Ok f) = found f.value f.next.at
taken e (Err p) = fault e p

-- ---- what is kept of a value

abbrev pub keeping : {S A B : Type 0} → (A → B) → Read S A → Read S B
keeping f (got a r) = got (f a) r
keeping f (refused e l) = refused e l

-- nothing is
abbrev pub passing : {S A : Type 0} → Read S A → Read S (Unit {0})
passing o = keeping (λ a. tt) o

-- of values, a sum; z is the sum of those before
abbrev pub summed : {S A : Type 0} → (A → ℕ) → ℕ → Read S (List A) → Read S ℕ
summed f z o = keeping (λ xs. z + total f xs) o

-- of values, how many and a sum; n and z are those of the values before
abbrev pub tallied : {S A : Type 0} → (A → ℕ) → ℕ → ℕ → Read S (List A) → Read S (ℕ × ℕ)
tallied f n z o = keeping (λ xs. (n + length xs, z + total f xs)) o
