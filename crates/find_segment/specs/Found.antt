-- What finding a segment answers: where it stands in an accepted record, or the refusal of every call on it.
use Rattle.std.specs.Prelude.{◌≡◌, ℕ, ◌+◌, ◌-◌, ◌*◌, ◌≤◌, ◌<◌, List, [], Result, Ok, Err, length, take, drop}
use Rattle.bits.specs.Codec.{got}
use Rattle.outcome.specs.Outcome.{Outcome, refused}
use Rattle.outcome.specs.Why.{number}
use Rattle.outcome.specs.declared.refusal.Refused.{Refused}
use Rattle.format.specs.Line.{skeleton}
use Rattle.format.specs.Segments.{segments}
use Rattle.format.specs.Record.{Record, read}
use Rattle.format.specs.Places.{view_at, image_of, count, segment_at, bits_before, bits_ahead, first_bit}
use Rattle.format.specs.Call.{on_segment}
use Rattle.format.specs.Named.{Means}
use Rattle.format.specs.declared.ViewName.{ViewName}
use Rattle.find_parts.specs.Stands.{BlockAt}
use Rattle.find_segment.specs.declared.Spot.{Spot}

-- x is where the segment at that place of view i of the record r stands in its bytes s: behind its view's blocks and the segments
-- before it
pub record SpotOf (r : Record) (s : List ℕ) (i place : ℕ) (x : Spot) : Type 0 where
  pub there : i < length r.views
  pub below : place < length (view_at r i).segments
  pub image : x.image ≡ image_of (view_at r i)
  pub widths : x.widths ≡ r.head.scale.widths
  pub lines : BlockAt (skeleton x.widths) s x.skeleton.from x.skeleton.to (view_at r i).lines
  pub kind : x.kind ≡ (segment_at (view_at r i) place).kind
  pub before : 8 * x.extended.from ≡ bits_before r i + bits_ahead r.head.scale.widths (view_at r i)
  pub extended : BlockAt segments s x.extended.from x.extended.to (view_at r i).segments
  pub first : 8 * x.payload.from ≡ first_bit i place r
  pub end : x.payload.to ≡ x.payload.from + length (segment_at (view_at r i) place).payload
  pub inside : x.payload.to ≤ x.extended.to
  pub is : take (x.payload.to - x.payload.from) (drop x.payload.from s) ≡ (segment_at (view_at r i) place).payload

-- the bytes s are a record's, the view that is named is its view i, and the segment stands at x
pub record SegmentStands (s : List ℕ) (view : ViewName) (place : ℕ) (x : Spot) : Type 0 where
  pub value : Record
  pub reads : read s ≡ got value []
  pub i : ℕ
  pub means : Means view value i
  pub at : SpotOf value s i place x

-- some segment of a record stands at x
pub record SpotThere (s : List ℕ) (x : Spot) : Type 0 where
  pub view : ViewName
  pub place : ℕ
  pub stands : SegmentStands s view place x

-- n is how many lines its view has, whatever view stands there
pub record LinesOf (s : List ℕ) (x : Spot) (n : ℕ) : Type 0 where
  pub is : (r : Record) (i place : ℕ) → SpotOf r s i place x → n ≡ count (view_at r i)

-- every call on the segment is refused with the number e at the place p, whatever it asks
pub record SegmentRefuses (s : List ℕ) (view : ViewName) (place e p : ℕ) : Type 0 where
  pub is : (f : ℕ → Record → Outcome ℕ) → on_segment view place f s ≡ refused e p

abbrev pub FindsSegment : List ℕ → ViewName → (place : ℕ) → Result Spot Refused → Type 0
FindsSegment s view place (Ok x) = SegmentStands s view place x
FindsSegment s view place (Err r) = SegmentRefuses s view place (number r.why) r.place
