-- What a writer of bits leaves in a lent buffer: its bits at the start, filled up to whole bytes, and the rest as it was. Writers
-- are said to put bits behind any that were put before, so that their contracts chain.
use Rattle.std.specs.Prelude.{◌≡◌, ℕ, ◌+◌, ◌*◌, ◌^◌, ◌≤◌, ◌<◌, List, ◌++◌, length, drop}
use Rattle.bits.specs.Bits.{Bits, bits_of_number, zeros, filled}
use Rattle.bits.specs.Bytes.{in_bytes}

-- the bits xs stand at the start of the buffer, filled up with zeros to a whole byte; behind that the buffer is as before
pub record Put (xs : Bits) (before now : List ℕ) (at : ℕ) : Type 0 where
  pub count : at ≡ length xs
  pub is : now ≡ in_bytes (filled xs) ++ drop (length (in_bytes (filled xs))) before

-- there is room for a number of so many bits at this place
pub record CanPut (now : List ℕ) (at value width : ℕ) : Type 0 where
  pub below : value < 2 ^ width
  pub narrow : width ≤ 16
  pub room : at + width ≤ 8 * length now
  pub near : at + width ≤ 8 * 65535

-- the number is put behind whatever bits were put, and the place is then r
pub record PutMore (old : List ℕ) (at value width : ℕ) (now : List ℕ) (r : ℕ) : Type 0 where
  pub is : (xs : Bits) (before : List ℕ) → Put xs before old at → Put (xs ++ bits_of_number width value) before now r
  pub same : length now ≡ length old
  pub place : r ≡ at + width

-- the number is put into zeros that were put at this place, whatever was put before and behind them
pub record PutInto (old : List ℕ) (at value width : ℕ) (now : List ℕ) : Type 0 where
  pub is : (xs ys : Bits) (before : List ℕ) (end : ℕ) → length xs ≡ at → Put (xs ++ (zeros width ++ ys)) before old end
      → Put (xs ++ (bits_of_number width value ++ ys)) before now end
  pub same : length now ≡ length old

-- ---- several numbers, one behind the other

-- the bits are put behind any others, from place at to place r
pub record Puts (bits : Bits) (old : List ℕ) (at : ℕ) (now : List ℕ) (r : ℕ) : Type 0 where
  pub is : (xs : Bits) (before : List ℕ) → Put xs before old at → Put (xs ++ bits) before now r
  pub same : length now ≡ length old
  pub place : r ≡ at + length bits

-- there is room for n bits at place at
pub record Room (out : List ℕ) (at n : ℕ) : Type 0 where
  pub room : at + n ≤ 8 * length out
  pub near : at + n ≤ 8 * 65535
