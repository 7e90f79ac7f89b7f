-- When the two calls on runs are accepted, in plain terms: by the numbers that stand side by side in a run, and by the drops among low
-- bytes. Each call answers 0 exactly where its record here holds, and 29 exactly where the run or the bytes are not right.
use Rattle.std.specs.Prelude.{◌≡◌, ℕ, zero, suc, ◌+◌, ◌*◌, ◌/◌, ◌%◌, ◌≤◌, ◌<◌, List, length, get_or, ltb}
use Rattle.bits.specs.Choice.{pick}
use Rattle.put_bytes.specs.HighFirst.{numbers_in}

-- ---- to low bytes

-- it starts at most at 255, never falls, and rises by at most 255 in a step; an empty run does
pub record SmallSteps (run : List ℕ) : Type 0 where
  pub start : get_or run 0 0 ≤ 255
  pub rises : (i : ℕ) → i + 1 < length run → get_or run i 0 ≤ get_or run (i + 1) 0
  pub near : (i : ℕ) → i + 1 < length run → get_or run (i + 1) 0 ≤ get_or run i 0 + 255

-- the run as it is lent, two bytes each
pub record RightRun (lent : List ℕ) : Type 0 where
  pub whole : length lent % 2 ≡ 0
  pub steps : SmallSteps (numbers_in lent)

-- bytes: how many the output has room for
pub record AcceptedLow (lent : List ℕ) (bytes : ℕ) : Type 0 where
  pub right : RightRun lent
  pub room : length lent / 2 ≤ bytes

-- ---- and back

-- how many of the bytes up to place i are below the byte before them
abbrev pub drops : List ℕ → ℕ → ℕ
drops bytes zero = 0
drops bytes (suc i) = pick (ltb (get_or bytes (suc i) 0) (get_or bytes i 0)) 1 0 + drops bytes i

-- the number that the byte at place i comes back as, "256 added at each drop (equal isn't one)"
abbrev pub back_at : List ℕ → ℕ → ℕ
back_at bytes i = get_or bytes i 0 + 256 * drops bytes i

pub record RightBytes (bytes : List ℕ) : Type 0 where
  pub small : (i : ℕ) → i < length bytes → back_at bytes i ≤ 65535

-- numbers: how many, of two bytes each, the output has room for
pub record AcceptedBack (bytes : List ℕ) (numbers : ℕ) : Type 0 where
  pub right : RightBytes bytes
  pub room : length bytes ≤ numbers

-- one of them "passes 65,535"
pub record PassesOver (bytes : List ℕ) : Type 0 where
  pub place : ℕ
  pub there : place < length bytes
  pub over : 65535 < back_at bytes place
