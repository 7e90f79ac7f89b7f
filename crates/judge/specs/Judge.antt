-- What the judge answers: of an accepted record its header, how many views it has and the bytes of its sheet; else the number and
-- the place of its refusal.
use Rattle.std.specs.Prelude.{◌≡◌, ℕ, ◌*◌, ◌≤◌, List, Result, Ok, Err, length}
use Rattle.bits.specs.Reads.{Found, found, fault, placed, place_found, keeping}
use Rattle.format.specs.Record.{Record, read}
use Rattle.format.specs.SheetSize.{sheet_size}
use Rattle.format.specs.declared.Header.{Header}
use Rattle.outcome.specs.Why.{number, fault_of}
use Rattle.outcome.specs.declared.refusal.Fault.{Fault}
use Rattle.outcome.specs.declared.refusal.Refused.{Refused}
use Rattle.judge.specs.declared.Accepted.{Accepted}

-- what is kept of a record
abbrev pub Summary : Type 0
Summary = Header × (ℕ × ℕ)

abbrev pub summary : Record → Summary
summary r = (r.head, (length r.views, sheet_size r))

abbrev pub accepted_of : List ℕ → Accepted → Found Summary
accepted_of s a = found (a.header, (a.views, a.size)) (8 * length s)

abbrev pub verdict_of : List ℕ → Result Accepted Refused → Found Summary
verdict_of s (Ok a) = accepted_of s a
verdict_of s (Err r) = fault (number r.why) r.place

-- reading the bytes s, and keeping that of the record, gives the verdict
pub record Judges (s : List ℕ) (r : Result Accepted Refused) : Type 0 where
  pub is : keeping summary (read s) ≡ placed s (verdict_of s r)
  pub within : place_found (verdict_of s r) ≤ 8 * length s

-- the same while a place is as wide as the readers count it; no record is so long that it would not fit a verdict's
abbrev pub found_of : List ℕ → Result Accepted Fault → Found Summary
found_of s (Ok a) = accepted_of s a
found_of s (Err f) = fault_of f

pub record Finds (s : List ℕ) (r : Result Accepted Fault) : Type 0 where
  pub is : keeping summary (read s) ≡ placed s (found_of s r)
  pub within : place_found (found_of s r) ≤ 8 * length s
  pub small : place_found (found_of s r) ≤ 262144
