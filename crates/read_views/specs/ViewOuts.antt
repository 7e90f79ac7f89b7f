-- What the writers of a view ask and leave, as for lines. Places are bytes of the record s.
use Rattle.std.specs.Prelude.{◌≡◌, ℕ, ◌+◌, ◌*◌, ◌≤◌, List, ◌++◌, length}
use Rattle.bits.specs.Lists.{total}
use Rattle.bits.specs.Reads.{found, Reads}
use Rattle.put_bytes.specs.Laid.{Laid}
use Rattle.format.specs.View.{View, view}
use Rattle.format.specs.SheetSize.{line_size, index_size, segment_size, view_size}
use Rattle.format.specs.declared.Widths.{Widths}
use Rattle.put_bytes.specs.HighFirst.{joined}
use Rattle.sheet_bytes.specs.Bytes.{line_bytes, index_bytes, segment_bytes, view_bytes}
use Rattle.format.specs.Record.{Narrow}
use Rattle.find_parts.specs.Stands.{BlocksAt}
use Rattle.read_views.specs.declared.view.ViewOut.{ViewOut}

-- ---- the blocks of a view; the length of the first is at byte b

pub record BlocksToRead (w : Widths) (s : List ℕ) (b n : ℕ) : Type 0 where
  pub narrow : Narrow w
  pub short : length s ≤ 32768
  pub value : View
  pub behind : ℕ
  pub blocks : BlocksAt w s b value behind
  pub room : total line_size value.lines + index_size value.index + total segment_size value.segments ≤ n

pub record BlocksOut (w : Widths) (s : List ℕ) (b : ℕ) (before after : List ℕ) (r : ViewOut) : Type 0 where
  pub is : (v : View) (d : ℕ) → BlocksAt w s b v d
      → (r.next ≡ d) × Laid (joined (line_bytes w.k) v.lines ++ (index_bytes v.index ++ joined segment_bytes v.segments)) before after r.written

-- ---- the view at byte a, behind views of the positions seen; n bytes are lent

pub record ViewToRead (w : Widths) (s : List ℕ) (a n : ℕ) : Type 0 where
  pub narrow : Narrow w
  pub short : length s ≤ 32768
  pub seen : List ℕ
  pub value : View
  pub behind : ℕ
  pub reads : Reads (view w seen).dec s (8 * a) (found value (8 * behind))
  pub room : view_size value ≤ n

pub record ViewWritten (w : Widths) (s : List ℕ) (a : ℕ) (before after : List ℕ) (r : ViewOut) : Type 0 where
  pub is : (seen : List ℕ) (v : View) (d : ℕ) → Reads (view w seen).dec s (8 * a) (found v (8 * d))
      → (r.next ≡ d) × Laid (view_bytes w.k v) before after r.written
