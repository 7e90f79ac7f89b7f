-- What the writers of lines ask and leave. A writer runs after the judge, on bytes that are known to be accepted: it asks that its
-- part reads as some value, and that there is room for that value's bytes; and whatever value the part reads as, its bytes are
-- what it lays.
use Rattle.std.specs.Prelude.{◌≡◌, ℕ, ◌≤◌, List, length}
use Rattle.bits.specs.Bits.{Bits}
use Rattle.bits.specs.Bytes.{bits_of}
use Rattle.bits.specs.Codec.{got}
use Rattle.bits.specs.Lists.{total}
use Rattle.bits.specs.Reads.{found, Reads}
use Rattle.put_bytes.specs.Laid.{Laid}
use Rattle.format.specs.Line.{Line, line, skeleton}
use Rattle.format.specs.SheetSize.{line_size}
use Rattle.format.specs.declared.Widths.{Widths}
use Rattle.put_bytes.specs.HighFirst.{joined}
use Rattle.format.specs.Record.{Narrow}
use Rattle.sheet_bytes.specs.Bytes.{line_bytes}
use Rattle.read_blocks.specs.declared.Moved.{Moved}
use Rattle.read_blocks.specs.declared.line.Lines.{Lines}

-- ---- a line at place p of the block s; n bytes are lent

pub record LineToRead (w : Widths) (s : List ℕ) (p n : ℕ) : Type 0 where
  pub narrow : Narrow w
  pub short : length s ≤ 65535
  pub value : Line
  pub behind : ℕ
  pub reads : Reads (line w).dec s p (found value behind)
  pub room : line_size value ≤ n

pub record LineOut (w : Widths) (s : List ℕ) (p : ℕ) (before after : List ℕ) (r : Moved) : Type 0 where
  pub is : (l : Line) (q : ℕ) → Reads (line w).dec s p (found l q) → (r.next.at ≡ q) × Laid (line_bytes w.k l) before after r.written

-- ---- the lines of the skeleton block s

pub record LinesToRead (w : Widths) (s : List ℕ) (n : ℕ) : Type 0 where
  pub narrow : Narrow w
  pub short : length s ≤ 65535
  pub value : List Line
  pub left : Bits
  pub reads : (skeleton w).dec (bits_of s) ≡ got value left
  pub room : total line_size value ≤ n

pub record LinesOut (w : Widths) (s before after : List ℕ) (r : Lines) : Type 0 where
  pub is : (ls : List Line) (u : Bits) → (skeleton w).dec (bits_of s) ≡ got ls u
      → (r.count ≡ length ls) × Laid (joined (line_bytes w.k) ls) before after r.written
