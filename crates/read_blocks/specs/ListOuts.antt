-- What the writers of neighbours ask and leave, for each way of reading them: a value is there, and it is read and laid.
use Rattle.std.specs.Prelude.{◌≡◌, ℕ, ◌*◌, ◌≤◌, Bool, List, length, drop}
use Rattle.bits.specs.Bits.{Bits}
use Rattle.bits.specs.Bytes.{bits_of}
use Rattle.bits.specs.Codec.{Read, got, along_dec}
use Rattle.bits.specs.Reads.{Reads, found, keeping}
use Rattle.put_bytes.specs.Laid.{Laid}
use Rattle.differences.specs.Differences.{undiffs, diff, tell_difference}

-- d reads a value from place p of the block s on, and n bytes hold it
pub record ValueThere {A : Type 0} (d : Bits → Read Bool A) (size : A → ℕ) (s : List ℕ) (p n : ℕ) : Type 0 where
  pub short : length s ≤ 65535
  pub place : p ≤ 8 * length s
  pub value : A
  pub left : Bits
  pub reads : d (drop p (bits_of s)) ≡ got value left
  pub room : size value ≤ n

-- d read a value from place p to place q, and its bytes are laid
pub record ValueOut {A : Type 0} (d : Bits → Read Bool A) (bytes : A → List ℕ) (s : List ℕ) (p q : ℕ) (before after : List ℕ) (n : ℕ) : Type 0 where
  pub value : A
  pub reads : Reads d s p (found value q)
  pub laid : Laid (bytes value) before after n

-- n differences of w bits, the first at least m, as neighbours by number from l downwards
abbrev pub numbers_dec : (w n m l : ℕ) → Bits → Read Bool (List ℕ)
numbers_dec w n m l s = keeping (undiffs l) (along_dec (diff w) tell_difference n (m, l) s)
