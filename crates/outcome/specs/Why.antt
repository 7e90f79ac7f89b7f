-- The number of each refusal, by its name in the code, and what a refusal in code means.
use Rattle.std.specs.Prelude.{ℕ, Result, Ok, Err}
use Rattle.bits.specs.Reads.{Found, fault}
use Rattle.outcome.specs.Refusals as r
use Rattle.outcome.specs.declared.refusal.Refusal.{Refusal}
use Rattle.outcome.specs.declared.refusal.Refusal.TheVariants as v
use Rattle.outcome.specs.declared.refusal.Fault.{Fault}
use Rattle.outcome.specs.declared.refusal.Refused.{Refused}
use Rattle.outcome.specs.declared.Answer.{Answer}

abbrev pub number : Refusal → ℕ
number v.BadSize = r.bad_size
number v.BadIdentifier = r.bad_identifier
number v.BadVersion = r.bad_version
number v.BadLength = r.bad_length
number v.BadHeader = r.bad_header
number v.Past = r.past
number v.BadView = r.bad_view
number v.BadLine = r.bad_line
number v.TooManyLines = r.too_many_lines
number v.BadIndex = r.bad_index
number v.BadSegment = r.bad_segment
number v.BytesOver = r.bytes_over
number v.NoView = r.no_view
number v.OtherCount = r.other_count
number v.BadLines = r.bad_lines
number v.Extended = r.extended
number v.NoIndex = r.no_index
number v.AlreadySo = r.already_so
number v.TooLong = r.too_long
number v.NoRoom = r.no_room
number v.BadSheet = r.bad_sheet
number v.BadValue = r.bad_value
number v.NoSegment = r.no_segment
number v.BadQuality = r.bad_quality
number v.BadPairs = r.bad_pairs
number v.BadPores = r.bad_pores
number v.BadObject = r.bad_object
number v.OtherScale = r.other_scale
number v.BadRun = r.bad_run
number v.NoRule = r.no_rule
number v.BelowRule = r.below_rule

-- what reading finds that refuses
abbrev pub fault_of : {A : Type 0} → Fault → Found A
fault_of f = fault (number f.why) f.place

-- what a call answers that has given so many elements, or refuses
abbrev pub answer_of : Result ℕ Refused → Answer
answer_of (Ok n) = record { number = 0; place = 0; length = n }
answer_of (Err r) = record { number = number r.why; place = r.place; length = 0 }
