-- The bytes of a rewritten record up to the payload: those of the old one, with three other lengths.
use Rattle.std.specs.Prelude.{ℕ, ◌+◌, ◌-◌, ◌≤◌, List, ◌++◌, length, take, drop}
use Rattle.put_bytes.specs.Laid.{Laid}
use Rattle.put_bytes.specs.HighFirst.{two}
use Rattle.put_record.specs.Head.{head_of}
use Rattle.find_segment.specs.declared.Spot.{Spot}

-- x is where the segment stands in the record s; k is how many bytes the new payload has

-- how many bytes the new record has, and its view's extended block
abbrev pub new_length : List ℕ → Spot → ℕ → ℕ
new_length s x k = length s - (x.payload.to - x.payload.from) + k

abbrev pub new_extended : Spot → ℕ → ℕ
new_extended x k = x.extended.to - x.extended.from - (x.payload.to - x.payload.from) + k

abbrev pub front_of : List ℕ → Spot → ℕ → List ℕ
front_of s x k =
    ((head_of s (x.extended.from - 2) (new_length s x k) ++ two (new_extended x k)) ++ take (x.payload.from - 2 - x.extended.from) (drop x.extended.from s))
    ++ two (4 + k)

-- the parts stand one behind the other in a record, which is short
pub record SpotIn (s : List ℕ) (x : Spot) : Type 0 where
  pub from : 14 ≤ x.extended.from
  pub first : x.extended.from + 4 ≤ x.payload.from
  pub order : x.payload.from ≤ x.payload.to
  pub inside : x.payload.to ≤ x.extended.to
  pub within : x.extended.to ≤ length s
  pub short : length s ≤ 32768

pub record FrontRoom (s : List ℕ) (x : Spot) (k : ℕ) (out : List ℕ) : Type 0 where
  pub spot : SpotIn s x
  pub small : new_length s x k ≤ 32768
  pub room : new_length s x k ≤ length out

abbrev pub FrontLaid : List ℕ → Spot → ℕ → (before after : List ℕ) → ℕ → Type 0
FrontLaid s x k before after r = Laid (front_of s x k) before after r
