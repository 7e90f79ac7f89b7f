-- "Whatever value the block has": the judge has accepted a block of bytes, and code walks it without making its value. So it asks that
-- the bytes read as some value, and says of its answer what holds with every value that they read as.
use Rattle.std.specs.Prelude.{◌≡◌, ℕ, ◌≤◌, List, length}
use Rattle.bits.specs.Bits.{Bits}
use Rattle.bits.specs.Bytes.{bits_of}
use Rattle.bits.specs.Codec.{got}
use Rattle.bits.specs.Block.{Block}

-- the bytes s, as many as a length of 16 bits can state, read as some value
pub record BlockThere {A : Type 0} (b : Block A) (s : List ℕ) : Type 0 where
  pub short : length s ≤ 65535
  pub value : A
  pub left : Bits
  pub reads : b.dec (bits_of s) ≡ got value left

-- P holds of whatever value the bytes s read as
pub record OfBlock {A : Type 0} (b : Block A) (s : List ℕ) (P : A → Type 0) : Type 0 where
  pub is : (v : A) (u : Bits) → b.dec (bits_of s) ≡ got v u → P v
