-- A segment, asked for by view and place (from 0), "comes back as the payload's part of the record itself, or empty if refused; its
-- number and length come from a call of their own". "Segment: 13, 23."
use Rattle.std.specs.Prelude.{ℕ, Bool, List, []}
use Rattle.bits.specs.Codec as C
use Rattle.outcome.specs.Outcome.{Outcome, refused, given, told}
use Rattle.outcome.specs.declared.Answer.{Answer}
use Rattle.format.specs.Record.{Record, read}
use Rattle.format.specs.Places.{view_at, segment_at, first_bit}
use Rattle.format.specs.Call.{on_segment}
use Rattle.format.specs.Named.{place_in}
use Rattle.format.specs.declared.ViewName.{ViewName}

-- of view i
abbrev pub payload_in : (place i : ℕ) → Record → Outcome ℕ
payload_in place i r = given (segment_at (view_at r i) place).payload

unfoldable pub payload : ViewName → (place : ℕ) → List ℕ → Outcome ℕ
payload view place = on_segment view place (payload_in place)

-- what comes back
abbrev pub payload_of : Outcome ℕ → List ℕ
payload_of (given xs) = xs
payload_of (refused e p) = []

-- ---- where it stands

abbrev pub first_bit_read : ViewName → (place : ℕ) → C.Read Bool Record → ℕ
first_bit_read view place (C.got r rest) = first_bit (place_in view r.views) place r
first_bit_read view place (C.refused e left) = 0

-- the answer of the call of its own
unfoldable pub segment_answer : ViewName → (place : ℕ) → List ℕ → Answer
segment_answer view place s = told (first_bit_read view place (read s)) (payload view place s)
