-- What the writers of a record's blocks ask and leave. The sheet is right, so that fields of some values stand where a writer starts;
-- whatever values they are, their block is what it lays, and it stops behind their fields.
use Rattle.std.specs.Prelude.{◌≡◌, ℕ, ◌+◌, ◌≤◌, List, ◌++◌, length, drop}
use Rattle.bits.specs.Lists.{All, total}
use Rattle.put_bytes.specs.Laid.{Laid}
use Rattle.put_bytes.specs.HighFirst.{two, joined}
use Rattle.format.specs.Segments.{Segment, FitsSegment}
use Rattle.find_parts.specs.Finds.{segment_stored}
use Rattle.write_blocks.specs.Run.{RunAt}
use Rattle.write_blocks.specs.declared.Done.{Done}

-- ---- segments: fields 06 from byte a of the sheet s on; n bytes are lent

-- what a field holds
abbrev pub segment_held : Segment → List ℕ
segment_held g = two g.kind ++ g.payload

pub record SegmentsAt (s : List ℕ) (a : ℕ) (gs : List Segment) (rest : List ℕ) : Type 0 where
  pub run : RunAt 6 segment_held s a gs rest
  pub fits : All FitsSegment gs

pub record SegmentsToWrite (s : List ℕ) (a n : ℕ) : Type 0 where
  pub value : List Segment
  pub rest : List ℕ
  pub at : SegmentsAt s a value rest
  pub room : total (λ g. 4 + length g.payload) value ≤ n

pub record SegmentsWritten (s : List ℕ) (a : ℕ) (before after : List ℕ) (r : Done) : Type 0 where
  pub is : (gs : List Segment) (rest : List ℕ) → SegmentsAt s a gs rest
      → Laid (joined segment_stored gs) before after r.bytes × (drop r.next s ≡ rest)
