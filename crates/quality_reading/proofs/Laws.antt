-- A segment that is found, its type, its payload as it is judged, and the room: what the call then answers.
use mathlib.Core.Path.{◌≡◌, sym, ap, ap₂, ◌∙◌}
use mathlib.Core.Logic.{◌≢◌}
use Prim.Native.Nat.{ℕ, ◌+◌, ◌-◌, ◌≤◌, ◌<◌}
use native.Mathlib.Omega.{arith}
use mathlib.Core.Option.{none}
use mathlib.Core.List.{List}
use lib.ListN.{length}
use Rattle.bits.specs.Codec.{value_of}
use Rattle.bits.specs.Lists.{All}
use Rattle.bits.specs.Bytes.{Byte, bits_of}
use Rattle.bits.proofs.Laws.Parts.{part, part_bytes, part_length}
use Rattle.put_bytes.specs.Laid.{Laid}
use Rattle.outcome.specs.Refusals.{bad_quality, no_room}
use Rattle.outcome.specs.Outcome.{given, Answers}
use Rattle.outcome.proofs.Laws.{answer_refused, answer_full, answer_given}
use Rattle.format.specs.Segments.{local_quality}
use Rattle.format.specs.declared.Image.{Image}
use Rattle.format.specs.declared.ViewName.{ViewName}
use Rattle.find_segment.specs.Found.{SegmentStands, SegmentRefuses}
use Rattle.find_segment.specs.declared.Spot.{Spot}
use Rattle.find_segment.proofs.Laws.{bounds, small_image}
use Rattle.rewrite.specs.Called.{values_given, read_in, read_payload}
use Rattle.rewrite.proofs.Laws.Payload.{reading_is, reading_other}
use Rattle.rewrite_put.proofs.Laws.Answered.{found_there}
use Rattle.quality.specs.Payload.{quality_block}
use Rattle.quality.specs.Quality.{quality_format, quality}
use Rattle.quality_cells.specs.declared.Grid.{Grid}
use Rattle.quality_values.specs.Values.{RightPayload, PayloadThere, ValuesLaid}
use Rattle.quality_values.proofs.Laws.Valued.{right_valued}

-- ---- refused before a segment is found

pub not_found : {s : List ℕ} {view : ViewName} {place e p : ℕ} (before : List ℕ) → SegmentRefuses s view place e p
    → Answers (quality view place s) before before (record { number = e; place = p; length = 0 })
unfolding read_payload
not_found {place = place} before h = answer_refused (λ xs. xs) (length before) before (h.is (read_in quality_format place))

-- ---- the segment at x

-- its payload, as code cuts it out
abbrev pub payload : List ℕ → Spot → List ℕ
payload s x = part s x.payload.from (x.payload.to - x.payload.from)

payload_bytes : (s : List ℕ) (x : Spot) → All Byte s → All Byte (payload s x)
payload_bytes s x b = part_bytes s x.payload.from (x.payload.to - x.payload.from) b

module _ {s : List ℕ} {view : ViewName} {place : ℕ} {x : Spot} where
  pub payload_there : SegmentStands s view place x → PayloadThere x.image (payload s x)
  payload_there h =
      let (w, t) = small_image h in
      let b = bounds h in
      record { small = record { width = w; height = t }; short = omega (arith, b, part_length s x.payload.from (x.payload.to - x.payload.from) (omega (arith, b))) }

  module _ (before : List ℕ) (h : SegmentStands s view place x) where
    pub other_type : x.kind ≢ local_quality → Answers (quality view place s) before before (record { number = bad_quality; place = 0; length = 0 })
    other_type n = answer_refused (λ xs. xs) (length before) before (reading_other quality_format (found_there h) (λ e. n (h.at.kind ∙ e)))

    module _ (k : x.kind ≡ local_quality) where
      -- the outcome is what its payload reads as
      reads_as : quality view place s ≡ values_given quality_format (value_of ((quality_block x.image).dec (bits_of (payload s x))))
      reads_as =
          let a = h.at in
          reading_is quality_format (found_there h) (sym a.kind ∙ k)
          ∙ ap₂ (λ (i : Image) (p : List ℕ). values_given quality_format (value_of ((quality_block i).dec (bits_of p)))) (sym a.image) (sym a.is)

      pub broken : value_of ((quality_block x.image).dec (bits_of (payload s x))) ≡ none
          → Answers (quality view place s) before before (record { number = bad_quality; place = 0; length = 0 })
      broken e = answer_refused (λ xs. xs) (length before) before (reads_as ∙ ap (values_given quality_format) e)

      module _ {g : Grid} (R : RightPayload x.image (payload s x) g) (bytes : All Byte s) where
        gives : quality view place s ≡ given R.values
        gives = reads_as ∙ ap (λ o. values_given quality_format (value_of o)) R.reads

        pub no_room_lem : length before < 3 + g.cells → Answers (quality view place s) before before (record { number = no_room; place = 0; length = 0 })
        no_room_lem l = answer_full (λ xs. xs) (length before) before gives (omega (arith, (right_valued R (payload_bytes s x bytes)).long))

        pub values_given_lem : {after : List ℕ} {n : ℕ} → 3 + g.cells ≤ length before → ValuesLaid (payload s x) g before after n
            → Answers (quality view place s) before after (record { number = 0; place = 0; length = n })
        values_given_lem {after} {n} l D =
            let L : Laid R.values before after n = D.is x.image R in
            answer_given (λ xs. xs) (length before) before gives after n (omega (arith, (right_valued R (payload_bytes s x bytes)).long)) L.count L.is
