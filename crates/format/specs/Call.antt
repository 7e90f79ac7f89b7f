-- A call on a record: the record is judged first, 1 to 12, and an accepted one has an outcome of the call's own. A call on one of its
-- views, or on a segment of a view: it is named, and one that is there has the call's own outcome.
use Rattle.std.specs.Prelude.{ℕ, ◌-◌, ◌*◌, Bool, List, length, ltb}
use Rattle.bits.specs.Choice.{pick}
use Rattle.bits.specs.Codec.{Read}
use Rattle.bits.specs.Codec as C
use Rattle.outcome.specs.Refusals.{no_view, no_segment}
use Rattle.outcome.specs.Outcome.{Outcome, refused}
use Rattle.format.specs.Record.{Record, read}
use Rattle.format.specs.Places.{view_at}
use Rattle.format.specs.Named.{place_in}
use Rattle.format.specs.declared.ViewName.{ViewName}

-- a refusal's place is counted from the start of the bytes, which have n bits
abbrev pub from_read : {A B : Type 0} → ℕ → (B → Outcome A) → Read Bool B → Outcome A
from_read n f (C.got r rest) = f r
from_read n f (C.refused e left) = refused e (n - left)

unfoldable pub on_record : {A : Type 0} → (Record → Outcome A) → List ℕ → Outcome A
on_record f bytes = from_read (8 * length bytes) f (read bytes)

-- "no view has the pair": 13. A view is named by finger position and view number; f is told its place.
abbrev pub in_view : {A : Type 0} → ViewName → (ℕ → Record → Outcome A) → Record → Outcome A
in_view view f r =
    let i : ℕ = place_in view r.views in
    pick (ltb i (length r.views)) (f i r) (refused no_view 0)

unfoldable pub on_view : {A : Type 0} → ViewName → (ℕ → Record → Outcome A) → List ℕ → Outcome A
on_view view f = on_record (in_view view f)

-- "no segment with that place": 23, behind 13. A segment is named by its view and its place there.
abbrev pub in_segment : {A : Type 0} → ℕ → (ℕ → Record → Outcome A) → ℕ → Record → Outcome A
in_segment place f i r = pick (ltb place (length (view_at r i).segments)) (f i r) (refused no_segment 0)

unfoldable pub on_segment : {A : Type 0} → ViewName → (place : ℕ) → (ℕ → Record → Outcome A) → List ℕ → Outcome A
on_segment view place f = on_view view (in_segment place f)
