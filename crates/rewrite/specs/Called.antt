-- The two calls on payloads of a format: the values of a segment's payload, and the record with that payload rewritten from values.
-- "Refusals: .. a segment of another type, or a payload or values to be written that break these rules, after 23; then 19, 20."
use Rattle.std.specs.Prelude.{ℕ, List, eqb}
use Rattle.std.proofs.Math.Option.{Option, none, some}
use Rattle.bits.specs.Choice.{pick}
use Rattle.outcome.specs.Outcome.{Outcome, refused, given}
use Rattle.format.specs.Segments.{Segment}
use Rattle.format.specs.Record.{Record}
use Rattle.format.specs.Places.{view_at, segment_at}
use Rattle.format.specs.Call.{on_segment}
use Rattle.format.specs.declared.ViewName.{ViewName}
use Rattle.rewrite.specs.Rewrite.{rewriting}
use Rattle.rewrite.specs.Format.{Frame, frame_of, PayloadFormat}

module _ {A : Type 0} (F : PayloadFormat A) where
  -- ---- reading: the stored payload is judged

  abbrev pub values_given : Option A → Outcome ℕ
  values_given none = refused F.bad 0
  values_given (some a) = given (F.elements a)

  -- of a segment of a view with that frame
  abbrev pub read_of : Frame → Segment → Outcome ℕ
  read_of f g = pick (eqb g.kind F.kind) (values_given (F.says f g.payload)) (refused F.bad 0)

  -- of the segment at that place of view i
  abbrev pub read_in : (place i : ℕ) → Record → Outcome ℕ
  read_in place i r = read_of (frame_of (view_at r i)) (segment_at (view_at r i) place)

  unfoldable pub read_payload : ViewName → (place : ℕ) → List ℕ → Outcome ℕ
  read_payload view place = on_segment view place (read_in place)

  -- ---- rewriting: the segment's type and what is lent are judged, and not the payload that is stored

  abbrev pub values_set : (place i : ℕ) → Record → Option A → Outcome ℕ
  values_set place i r none = refused F.bad 0
  values_set place i r (some a) = rewriting i place (F.payload (frame_of (view_at r i)) a) r

  abbrev pub set_in : (place : ℕ) (values : List ℕ) → (i : ℕ) → Record → Outcome ℕ
  set_in place values i r =
      pick (eqb (segment_at (view_at r i) place).kind F.kind) (values_set place i r (F.lent (frame_of (view_at r i)) values)) (refused F.bad 0)

  unfoldable pub set_payload : ViewName → (place : ℕ) → (values : List ℕ) → List ℕ → Outcome ℕ
  set_payload view place values = on_segment view place (set_in place values)
