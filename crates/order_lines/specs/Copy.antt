-- What copying bits asks and leaves.
use Rattle.std.specs.Prelude.{ℕ, ◌-◌, ◌*◌, ◌≤◌, List, length, take, drop}
use Rattle.bits.specs.Bytes.{bits_of}
use Rattle.put_bits.specs.Put.{Puts, Room}

pub record CopyThere (s : List ℕ) (p end : ℕ) (out : List ℕ) (at : ℕ) : Type 0 where
  pub short : length s ≤ 65535
  pub order : p ≤ end
  pub there : end ≤ 8 * length s
  pub room : Room out at (end - p)

abbrev pub Copied : List ℕ → ℕ → ℕ → List ℕ → ℕ → List ℕ → ℕ → Type 0
Copied s p end old at now r = Puts (take (end - p) (drop p (bits_of s))) old at now r
