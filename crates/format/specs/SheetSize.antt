-- How many bytes each part of a record takes in its sheet: a judge counts them on its way, so that the sheet's length is known
-- before it is written.
use Rattle.std.specs.Prelude.{ℕ, ◌+◌, ◌*◌, List, length}
use Rattle.std.proofs.Math.Option.{Option, none, some}
use Rattle.bits.specs.Lists.{total}
use Rattle.format.specs.Line.{Line}
use Rattle.format.specs.Index.{Index}
use Rattle.format.specs.Segments.{Segment}
use Rattle.format.specs.View.{View}
use Rattle.format.specs.Record.{Record}

abbrev pub line_size : Line → ℕ
line_size l = 15 + length l.codes

abbrev pub list_size : List ℕ → ℕ
list_size ns = 3 + 2 * length ns

abbrev pub index_size : Option Index → ℕ
index_size none = 0
index_size (some i) = 4 + total list_size i.lists

abbrev pub segment_size : Segment → ℕ
segment_size g = 5 + length g.payload

abbrev pub view_size : View → ℕ
view_size v = 11 + total line_size v.lines + index_size v.index + total segment_size v.segments

unfoldable pub sheet_size : Record → ℕ
sheet_size r = 12 + total view_size r.views
