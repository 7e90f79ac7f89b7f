-- What is told of the parts of a line's value: each is read at its place by its own format, or it is refused there with 22.
use Rattle.std.specs.Prelude.{ℕ, Bool, true, false, List, length}
use Rattle.bits.specs.Bits.{Bits}
use Rattle.bits.specs.Codec.{Read}
use Rattle.bits.specs.Block.{fill_dec}
use Rattle.bits.specs.Reads.{found, fault, Reads}
use Rattle.outcome.specs.Refusals.{bad_value}
use Rattle.sheet.specs.Values.{code_value}

-- ---- a part of a value: reading with d from place p

module _ {A : Type 0} (d : Bits → Read Bool A) (s : List ℕ) (p : ℕ) where
  pub record There (q : ℕ) : Type 0 where
    pub value : A
    pub reads : Reads d s p (found value q)

  pub record NotThere : Type 0 where
    pub place : ℕ
    pub reads : Reads d s p (fault bad_value place)

  -- q is the place behind it
  abbrev pub Passes : ℕ → Bool → Type 0
  Passes q true = There q
  Passes q false = NotThere

-- codes of k bits, a byte each, up to the end
unfoldable pub codes_dec : ℕ → Bits → Read Bool (List ℕ)
codes_dec k s = fill_dec (code_value k) bad_value (length s) s
