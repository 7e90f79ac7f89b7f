-- The numbers of the call for a segment: 1 to 13 and 23. It writes nothing, so that it never gives 20.
use mathlib.Core.Path.{◌≡◌}
use Prim.Native.Nat.{ℕ}
use mathlib.Core.List.{List}
use lib.ListN.{drop}
use Rattle.outcome.specs.Numbers.{Gives, segment_numbers}
use Rattle.outcome.specs.declared.Answer.{Answer}
use Rattle.outcome.proofs.Numbers.{RefusedBy, among_first, told_number}
use Rattle.format.specs.Record.{read}
use Rattle.format.specs.declared.ViewName.{ViewName}
use Rattle.format.proofs.Laws.Numbers as FormatNumbers
use Rattle.segment.specs.Segment.{payload_in, payload, first_bit_read, segment_answer}

payload_by : (view : ViewName) (place : ℕ) (bytes : List ℕ) → RefusedBy segment_numbers (payload view place bytes)
unfolding payload
payload_by view place = FormatNumbers.segment_numbers_lem segment_numbers (among_first 1 13 (drop 1 segment_numbers)) tt view place (payload_in place) (λ i r. tt)

pub segment_numbers_lem : {a : Answer} (view : ViewName) (place : ℕ) (bytes : List ℕ) → a ≡ segment_answer view place bytes → Gives segment_numbers a.number
unfolding segment_answer
segment_numbers_lem view place bytes e =
    rw e (told_number segment_numbers (first_bit_read view place (read bytes)) (payload view place bytes) (payload_by view place bytes))
