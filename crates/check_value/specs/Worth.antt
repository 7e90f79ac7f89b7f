-- Whether a value of a sheet's field is right, as the code tells it: read by the value's own format with nothing left over, or
-- refused with 22. The place of a 22 is not shown, so how much is left at the fault is not told.
use Rattle.std.specs.Prelude.{◌≡◌, ℕ, Bool, true, false, Option, Some, None, List, []}
use Rattle.bits.specs.Bytes.{bits_of}
use Rattle.bits.specs.Codec.{got, refused}
use Rattle.bits.specs.Block.{Block}
use Rattle.outcome.specs.Refusals.{bad_value}

-- ---- the value s of a field whose format is b

module _ {A : Type 0} (b : Block A) (s : List ℕ) where
  pub record Wrong : Type 0 where
    pub left : ℕ
    pub refuses : b.dec (bits_of s) ≡ refused bad_value left

  -- P is what is told of it besides
  pub record Right (P : A → Type 0) : Type 0 where
    pub value : A
    pub reads : b.dec (bits_of s) ≡ got value []
    pub known : P value

  -- told by the value itself
  abbrev pub Told : Option A → Type 0
  Told (Some a) = b.dec (bits_of s) ≡ got a []
  Told None = Wrong

  -- told by yes or no
  abbrev pub Tested : (A → Type 0) → Bool → Type 0
  Tested P true = Right P
  Tested P false = Wrong
