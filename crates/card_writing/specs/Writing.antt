-- What the writers of a card's object ask and leave: the value is a part of a record, and the object with it is laid or given.
use Rattle.std.specs.Prelude.{◌≡◌, ℕ, ◌+◌, ◌≤◌, ◌<◌, List, length}
use Rattle.put_bytes.specs.Laid.{Laid}
use Rattle.outcome.specs.Outcome.{Outcome, given, Answers}
use Rattle.outcome.specs.declared.Answer.{Answer}
use Rattle.card.specs.Stored.{length_out, object90_out, object_out}

-- ---- a length

pub record LengthBytes (n r : ℕ) : Type 0 where
  pub is : r ≡ length (length_out n)

pub record LengthRoom (n : ℕ) (out : List ℕ) : Type 0 where
  pub small : n < 65536
  pub room : length (length_out n) ≤ length out

pub record LengthLaid (n : ℕ) (before after : List ℕ) (r : ℕ) : Type 0 where
  pub laid : Laid (length_out n) before after r

-- ---- a data object: its tag has so many bytes, its value n

pub record TaggedShort (tag n : ℕ) : Type 0 where
  pub few : tag ≤ 2
  pub small : n < 65536

pub record TaggedBytes (tag n r : ℕ) : Type 0 where
  pub is : r ≡ tag + length (length_out n) + n

-- ---- the object with this value

-- it is a part of a record
abbrev pub ValueShort : List ℕ → Type 0
ValueShort value = length value ≤ 32768

pub record InnerRoom (value out : List ℕ) : Type 0 where
  pub short : ValueShort value
  pub room : length (object90_out value) ≤ length out

pub record InnerLaid (value before after : List ℕ) (r : ℕ) : Type 0 where
  pub laid : Laid (object90_out value) before after r

pub record ObjectRoom (value out : List ℕ) : Type 0 where
  pub short : ValueShort value
  pub room : length (object_out value) ≤ length out

pub record ObjectLaid (value before after : List ℕ) (r : ℕ) : Type 0 where
  pub laid : Laid (object_out value) before after r

-- whatever call gives it; where there is no room, 20
pub record ObjectGiven (value before after : List ℕ) (r : Answer) : Type 0 where
  pub is : (o : Outcome ℕ) → o ≡ given (object_out value) → Answers o before after r
