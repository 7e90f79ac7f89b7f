-- A record with the payload of one segment rewritten, whatever the payload's format: all else of it stays.
use Rattle.std.specs.Prelude.{ℕ, List, set, leb}
use Rattle.bits.specs.Choice.{pick}
use Rattle.outcome.specs.Refusals.{too_long}
use Rattle.outcome.specs.Outcome.{Outcome, refused, given}
use Rattle.format.specs.Limits.{most_bytes}
use Rattle.format.specs.View.{View}
use Rattle.format.specs.Record.{Record, write, size}
use Rattle.format.specs.Places.{view_at, with_view, segment_at}

-- the view with another payload in the segment at that place, which keeps its type
abbrev pub with_payload : (place : ℕ) → List ℕ → View → View
with_payload place payload v =
    record { head = v.head; lines = v.lines; index = v.index; segments = set v.segments place (record { kind = (segment_at v place).kind; payload = payload }) }

-- of view i
unfoldable pub rewritten : (i place : ℕ) → List ℕ → Record → Record
rewritten i place payload r = with_view r i (with_payload place payload (view_at r i))

-- "result over 32,768 bytes": 19; else the record's bytes
unfoldable pub rewriting : (i place : ℕ) → List ℕ → Record → Outcome ℕ
rewriting i place payload r =
    pick (leb (size (rewritten i place payload r)) most_bytes) (given (write (rewritten i place payload r))) (refused too_long 0)
