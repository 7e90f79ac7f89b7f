-- What any sequence of orders keeps, in values and in bytes. "Only the edited view's skeleton and index blocks, their lengths and
-- the record length change"; and where lines are removed, the payloads of pores and the lengths of their segments and of their block.
use Rattle.std.specs.Prelude.{◌≡◌, ℕ, ◌<◌, true, false, List, [], length}
use Rattle.std.proofs.Math.Option.{some}
use Rattle.std.proofs.Math.Seq.{slice}
use Rattle.bits.specs.Lists.{All}
use Rattle.bits.specs.Bytes.{Byte}
use Rattle.bits.specs.Codec.{got}
use Rattle.format.specs.Record.{Record, read, write, Allowed}
use Rattle.format.specs.Segments.{sweat_pores, is_pores}
use Rattle.format.specs.Places.{view_at, segment_at}
use Rattle.format.specs.Named.{name_of, place_in}
use Rattle.format.specs.declared.ViewName.{ViewName}
use Rattle.find_parts.specs.Finds.{segment_stored}
use Rattle.pores_parts.specs.Parts.{Pores}
use Rattle.pores.specs.Payload.{pores_in, payload_of}
use Rattle.pores.specs.Keep.{keep}
use Rattle.orders.specs.History.{Call, History, fresh, history, Follows}
use Rattle.orders.specs.Bytes.{view_part, view_header_part, extended_part, segment_part}

-- the history of view i, by its name
abbrev pub history_of : ℕ → List Call → Record → List ℕ → History
history_of i cs r start = history (name_of (view_at r i)) cs start (fresh (view_at r i))

-- start are the bytes of the record r; they are lent to the first of the orders cs, and each result to the next; now are the bytes
-- that hold at the end.
pub record Kept (cs : List Call) (r : Record) (start now : List ℕ) : Type 0 where
  -- these are bytes, and an allowed record's
  pub bytes : All Byte now
  pub last : Record
  pub allowed : Allowed last
  pub reads : read now ≡ got last []
  pub written : now ≡ write last
  -- in values: the header and the number of views stay, and each view is what the accepted orders on it say
  pub head : last.head ≡ r.head
  pub count : length last.views ≡ length r.views
  pub follows : (i : ℕ) → i < length r.views → Follows (view_at r i) (view_at last i) (history_of i cs r start)
  -- a name means the place that it meant
  pub places : (view : ViewName) → place_in view last.views ≡ place_in view r.views
  -- in bytes: the record's header stays, bytes 0 to 7 and 12 to 23, but for the record length between them
  pub front : slice 0 8 now ≡ slice 0 8 start
  pub fields : slice 12 24 now ≡ slice 12 24 start
  -- a view on which no order was accepted keeps all its bytes
  pub spared : (i : ℕ) → i < length r.views → (history_of i cs r start).accepted ≡ 0 → view_part last i now ≡ view_part r i start
  -- and every view those of its header, but for the skeleton length
  pub headers : (i : ℕ) → i < length r.views → view_header_part last i now ≡ view_header_part r i start
  -- and those of each segment that is not of pores, at its place, to the byte: those of local quality, whether their payloads are well
  -- formed or not
  pub segments : (i place : ℕ) → i < length r.views → place < length (view_at r i).segments → is_pores (segment_at (view_at r i) place) ≡ false
      → segment_part last i place now ≡ segment_part r i place start
  -- one of pores has, where lines were removed, the bytes of the pores of those that are left
  pub pores : (i place : ℕ) → i < length r.views → place < length (view_at r i).segments → is_pores (segment_at (view_at r i) place) ≡ true
      → (p : Pores) → pores_in (length (view_at r i).lines) (segment_at (view_at r i) place).payload ≡ some p
      → segment_part last i place now ≡ segment_stored (record { kind = sweat_pores; payload = payload_of (keep (history_of i cs r start).left p) })
  -- and where no line was removed, all the segments and the extended length are what they were, whether well formed or not
  pub extended : (i : ℕ) → i < length r.views → length (history_of i cs r start).left ≡ length (view_at r i).lines
      → extended_part last i now ≡ extended_part r i start
