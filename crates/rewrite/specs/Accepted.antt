-- When the calls on payloads of a format are accepted, and when they are refused because the format's rules are broken: their numbers
-- are 0, or the format's own, exactly where these hold. lent is how many elements the output has room for.
use Rattle.std.specs.Prelude.{◌≡◌, ◌≢◌, ℕ, ◌≤◌, ◌<◌, List, [], length}
use Rattle.std.proofs.Math.Option.{none, some}
use Rattle.bits.specs.Codec.{got}
use Rattle.format.specs.Limits.{most_bytes}
use Rattle.format.specs.Segments.{Segment}
use Rattle.format.specs.View.{View}
use Rattle.format.specs.Record.{Record, read, size}
use Rattle.format.specs.Places.{view_at, segment_at}
use Rattle.format.specs.Named.{Means}
use Rattle.format.specs.declared.ViewName.{ViewName}
use Rattle.rewrite.specs.Rewrite.{rewritten}
use Rattle.rewrite.specs.Format.{frame_of, PayloadFormat}

-- the bytes read as a record that has the segment
pub record SegmentThere (view : ViewName) (place : ℕ) (bytes : List ℕ) : Type 0 where
  pub value : Record
  pub reads : read bytes ≡ got value []
  pub i : ℕ
  pub means : Means view value i
  pub there : place < length (view_at value i).segments

-- its view, and the segment
abbrev pub its_view : {view : ViewName} {place : ℕ} {bytes : List ℕ} → SegmentThere view place bytes → View
its_view t = view_at t.value t.i

abbrev pub its_segment : {view : ViewName} {place : ℕ} {bytes : List ℕ} → SegmentThere view place bytes → Segment
its_segment {place = place} t = segment_at (its_view t) place

-- the record with these values in that segment
abbrev pub new_record : {A : Type 0} → PayloadFormat A → {view : ViewName} {place : ℕ} {bytes : List ℕ} → SegmentThere view place bytes → A → Record
new_record F {place = place} t a = rewritten t.i place (F.payload (frame_of (its_view t)) a) t.value

-- ---- accepted

-- its type is the format's, its payload is that of right values, and their elements fit the output
pub record AcceptedReading {A : Type 0} (F : PayloadFormat A) (view : ViewName) (place : ℕ) (bytes : List ℕ) (lent : ℕ) : Type 0 where
  pub there : SegmentThere view place bytes
  pub kind : (its_segment there).kind ≡ F.kind
  pub value : A
  pub right : F.Right (frame_of (its_view there)) value
  pub payload : (its_segment there).payload ≡ F.payload (frame_of (its_view there)) value
  pub room : length (F.elements value) ≤ lent

-- its type is the format's, what is to be written says right values, and the new record is at most 32,768 bytes and fits the output
pub record AcceptedSetting {A : Type 0} (F : PayloadFormat A) (view : ViewName) (place : ℕ) (values bytes : List ℕ) (lent : ℕ) : Type 0 where
  pub there : SegmentThere view place bytes
  pub kind : (its_segment there).kind ≡ F.kind
  pub value : A
  pub says : F.lent (frame_of (its_view there)) values ≡ some value
  pub small : size (new_record F there value) ≤ most_bytes
  pub room : size (new_record F there value) ≤ lent

-- ---- refused with the format's number: "a segment of another type, or a payload or values to be written that break these rules"

-- it has another type, or its payload is that of no right values
pub record BrokenReading {A : Type 0} (F : PayloadFormat A) (view : ViewName) (place : ℕ) (bytes : List ℕ) : Type 0 where
  pub there : SegmentThere view place bytes
  pub wrong : (its_segment there).kind ≡ F.kind → (a : A) → F.Right (frame_of (its_view there)) a → (its_segment there).payload ≢ F.payload (frame_of (its_view there)) a

-- it has another type, or what is to be written says no right values
pub record BrokenSetting {A : Type 0} (F : PayloadFormat A) (view : ViewName) (place : ℕ) (values bytes : List ℕ) : Type 0 where
  pub there : SegmentThere view place bytes
  pub wrong : (its_segment there).kind ≡ F.kind → F.lent (frame_of (its_view there)) values ≡ none
