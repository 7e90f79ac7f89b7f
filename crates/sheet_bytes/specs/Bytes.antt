-- A record's sheet, byte by byte: what the writers lay down. That it is the sheet of the definitions is a law (Rendered).
use Rattle.std.specs.Prelude.{ℕ, ◌+◌, ◌*◌, List, [], ◌∷◌, ◌++◌, map, length}
use Rattle.std.proofs.Math.Option.{Option, none, some}
use Rattle.put_bytes.specs.HighFirst.{two, start, joined}
use Rattle.format.specs.Line.{Line}
use Rattle.format.specs.Index.{Index}
use Rattle.format.specs.Segments.{Segment}
use Rattle.format.specs.View.{View}
use Rattle.format.specs.Record.{Record}
use Rattle.format.specs.declared.End.{End}
use Rattle.format.specs.declared.Header.{Header}
use Rattle.sheet_codes.specs.Code.{sign_extended}
use Rattle.find_parts.specs.Stored.{head_bytes, scale_bytes}

abbrev pub end_bytes : End → List ℕ
end_bytes p = p.kind ∷ p.direction ∷ (two p.x ++ two p.y)

-- k: bits of a code
abbrev pub line_bytes : ℕ → Line → List ℕ
line_bytes k l = start 3 (12 + length l.codes) ++ (end_bytes l.start ++ (end_bytes l.finish ++ map (sign_extended k) l.codes))

abbrev pub list_bytes : List ℕ → List ℕ
list_bytes ns = start 5 (2 * length ns) ++ joined two ns

abbrev pub index_bytes : Option Index → List ℕ
index_bytes none = []
index_bytes (some i) = start 4 1 ++ (i.width ∷ joined list_bytes i.lists)

abbrev pub segment_bytes : Segment → List ℕ
segment_bytes g = start 6 (2 + length g.payload) ++ (two g.kind ++ g.payload)

abbrev pub view_bytes : ℕ → View → List ℕ
view_bytes k v =
    start 2 8 ++ (head_bytes v.head ++ (joined (line_bytes k) v.lines ++ (index_bytes v.index ++ joined segment_bytes v.segments)))

abbrev pub header_bytes : Header → List ℕ
header_bytes h = two h.device ++ scale_bytes h.scale

unfoldable pub record_bytes : Record → List ℕ
record_bytes r = start 1 9 ++ (header_bytes r.head ++ joined (view_bytes r.head.scale.widths.k) r.views)
