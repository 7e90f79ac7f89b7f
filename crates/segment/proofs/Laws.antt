-- A segment that is found, or refused, and what the two calls then give.
use mathlib.Core.Path.{◌≡◌, sym, ap, ap₂, ◌∙◌}
use Prim.Native.Nat.{ℕ, ◌-◌, ◌*◌}
use native.Mathlib.Omega.{arith}
use mathlib.Core.List.{List, []}
use lib.ListN.{length}
use Rattle.bits.proofs.Laws.Parts.{part, part_length}
use Rattle.outcome.specs.Outcome.{refused, given}
use Rattle.outcome.proofs.Laws.{told_refused, told_given}
use Rattle.format.specs.Record.{read}
use Rattle.format.specs.Places.{first_bit}
use Rattle.format.specs.declared.ViewName.{ViewName}
use Rattle.format.proofs.Laws.Call.{on_segment_lem}
use Rattle.find_segment.specs.Found.{SegmentStands, SegmentRefuses}
use Rattle.find_segment.specs.declared.Spot.{Spot}
use Rattle.find_segment.proofs.Laws.{bounds}
use Rattle.segment.specs.Segment.{payload_in, payload, first_bit_read, payload_of, segment_answer}

module _ (view : ViewName) (place : ℕ) (s : List ℕ) where
  module _ {e p : ℕ} (h : SegmentRefuses s view place e p) where
    no_payload : payload view place s ≡ refused e p
    unfolding payload
    no_payload = h.is (payload_in place)

    pub answer_refused : record { number = e; place = p; length = 0 } ≡ segment_answer view place s
    unfolding segment_answer
    answer_refused = sym (told_refused (first_bit_read view place (read s)) no_payload)

    pub none_given : [] ≡ payload_of (payload view place s)
    none_given = sym (ap payload_of no_payload)

  module _ {x : Spot} (h : SegmentStands s view place x) where
    a_payload : payload view place s ≡ given (part s x.payload.from (x.payload.to - x.payload.from))
    unfolding payload
    a_payload = on_segment_lem view place (payload_in place) s h.reads h.means h.at.below ∙ ap given (sym h.at.is)

    pub answer_at : record { number = 0; place = 8 * x.payload.from; length = x.payload.to - x.payload.from } ≡ segment_answer view place s
    unfolding segment_answer
    answer_at =
        let l : length (part s x.payload.from (x.payload.to - x.payload.from)) ≡ x.payload.to - x.payload.from =
        part_length s x.payload.from (x.payload.to - x.payload.from) (omega (arith, bounds h)) in
        let f : 8 * x.payload.from ≡ first_bit_read view place (read s) =
        h.at.first ∙ sym (ap (first_bit_read view place) h.reads ∙ ap (λ (i : ℕ). first_bit i place h.value) h.means.is) in
        ap₂ (λ (p n : ℕ). record { number = 0; place = p; length = n }) f (sym l) ∙ sym (told_given (first_bit_read view place (read s)) a_payload)

    pub part_given : part s x.payload.from (x.payload.to - x.payload.from) ≡ payload_of (payload view place s)
    part_given = sym (ap payload_of a_payload)
