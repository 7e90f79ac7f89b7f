-- The parts of a record as values: which are allowed, and how each goes over into the numbers that stand in the record, one behind the
-- other. How they are written is said in Line, Index, Segments, View and Record.
use Rattle.std.specs.Prelude.{◌≡◌, ℕ, suc, ◌+◌, ◌^◌, ◌≤◌, ◌<◌, Bool, ◌||◌, List, length, leb, eqb}
use Rattle.std.proofs.Math.Option.{Option, none, some}
use Rattle.bits.specs.Choice.{pick}
use Rattle.bits.specs.Lists.{All, Along}
use Rattle.bits.specs.Bytes.{Byte}
use Rattle.bits.specs.Codec.{Codec}
use Rattle.bits.specs.CodecLaws.{field, then, Ranged, ranged}
use Rattle.bits.specs.RefusingLaws.{judged}
use Rattle.differences.specs.Differences.{Falls, diffs, undiffs}
use Rattle.format.specs.declared.Widths.{Widths}
use Rattle.format.specs.declared.End.{End}
use Rattle.format.specs.declared.ViewHeader.{ViewHeader}
use Rattle.format.specs.declared.Scale.{Scale}
use Rattle.format.specs.declared.Header.{Header}

-- ---- a line's end, whatever codecs its numbers have

pub record EndFits (K D X : ℕ → Type 0) (p : End) : Type 0 where
  pub kind : K p.kind
  pub direction : D p.direction
  pub x : X p.x
  pub y : X p.y

abbrev pub end_numbers : (kind direction x : Codec Bool ℕ) → Codec Bool (ℕ × (ℕ × (ℕ × ℕ)))
end_numbers kind direction x = then kind λ _. then direction λ _. then x λ _. x

abbrev pub numbers_of_end : End → ℕ × (ℕ × (ℕ × ℕ))
numbers_of_end p = (p.kind, (p.direction, (p.x, p.y)))

abbrev pub make_end : ℕ × (ℕ × (ℕ × ℕ)) → End
make_end t = record { kind = t.0; direction = t.1.0; x = t.1.1.0; y = t.1.1.1 }

-- ---- a line

-- codes are kept as they are written, k bits each, unsigned
pub record Line : Type 0 where
  pub start : End
  pub codes : List ℕ
  pub finish : End

abbrev pub FitsEnd : Widths → End → Type 0
FitsEnd w = EndFits (λ n. n < 2 ^ 2) (λ n. n < 2 ^ w.b) (λ n. n < 2 ^ w.c)

pub record FitsLine (w : Widths) (l : Line) : Type 0 where
  pub start : FitsEnd w l.start
  pub count : length l.codes < 2 ^ 8
  pub codes : All (λ n. n < 2 ^ w.k) l.codes
  pub finish : FitsEnd w l.finish

abbrev pub parts_of_line : Line → End × (List ℕ × End)
parts_of_line l = (l.start, (l.codes, l.finish))

abbrev pub make_line : End × (List ℕ × End) → Line
make_line t = record { start = t.0; codes = t.1.0; finish = t.1.1 }

-- ---- a line's neighbours, and the index

-- line l's neighbours by number, highest first, at width w
pub record FitsList (w l : ℕ) (ns : List ℕ) : Type 0 where
  pub falls : Falls 0 l ns
  pub count : length ns < 2 ^ w
  pub diffs : All (λ d. d < 2 ^ w) (diffs l ns)

-- a count and that many differences
abbrev pub differences_of : ℕ → List ℕ → ℕ × List ℕ
differences_of l ns = (length ns, diffs l ns)

abbrev pub make_list : ℕ → ℕ × List ℕ → List ℕ
make_list l t = undiffs l t.1

-- lists: one for each line, in order
pub record Index : Type 0 where
  pub width : ℕ
  pub lists : List (List ℕ)

-- the number of the next line
abbrev pub up : ℕ → List ℕ → ℕ
up l ns = suc l

-- n is how many lines there are
pub record FitsIndex (n : ℕ) (i : Index) : Type 0 where
  pub low : 1 ≤ i.width
  pub high : i.width ≤ 16
  pub count : length i.lists ≡ n
  pub lists : Along up (FitsList i.width) 0 i.lists

abbrev pub parts_of_index : Index → ℕ × List (List ℕ)
parts_of_index i = (i.width, i.lists)

abbrev pub make_index : ℕ × List (List ℕ) → Index
make_index t = record { width = t.0; lists = t.1 }

-- ---- a segment

pub record Segment : Type 0 where
  pub kind : ℕ
  pub payload : List ℕ

pub record FitsSegment (g : Segment) : Type 0 where
  pub kind : g.kind < 2 ^ 16
  pub length : 4 + length g.payload < 2 ^ 16
  pub payload : All Byte g.payload

-- the length counts the segment's own 4 bytes
abbrev pub parts_of_segment : Segment → ℕ × (ℕ × List ℕ)
parts_of_segment g = (g.kind, (4 + length g.payload, g.payload))

abbrev pub make_segment : ℕ × (ℕ × List ℕ) → Segment
make_segment t = record { kind = t.0; payload = t.1.1 }

-- ---- a view's header

-- "impression (0, 1, 2, 3, 8 or 9)"
abbrev pub impression_ok : ℕ → Bool
impression_ok n = leb n 3 || eqb n 8 || eqb n 9

-- Number, position, impression, quality, judged in that order: the place of the first that is not right. "The view number equals
-- the count of earlier views with the same position"; earlier gives that count.
abbrev pub head_fault : (ℕ → ℕ) → ℕ × (ℕ × (ℕ × ℕ)) → Option ℕ
head_fault earlier (number, (position, (impression, quality))) =
    pick (eqb number (earlier position))
    (pick (leb position 10) (pick (impression_ok impression) (pick (leb quality 100) none (some 24)) (some 16)) (some 8))
    (some 0)

abbrev pub four_of : ViewHeader → ℕ × (ℕ × (ℕ × ℕ))
four_of h = (h.number, (h.position, (h.impression, h.quality)))

pub record FitsHead (earlier : ℕ → ℕ) (h : ViewHeader) : Type 0 where
  pub number : h.number < 2 ^ 8
  pub position : h.position < 2 ^ 8
  pub impression : h.impression < 2 ^ 8
  pub quality : h.quality < 2 ^ 8
  pub right : head_fault earlier (four_of h) ≡ none
  pub width : h.width < 2 ^ 16
  pub height : h.height < 2 ^ 16

-- e is the refusal of a value
abbrev pub head_numbers : ℕ → (ℕ → ℕ) → Codec Bool ((ℕ × (ℕ × (ℕ × ℕ))) × (ℕ × ℕ))
head_numbers e earlier =
    then (judged (then (field e 8) λ _. then (field e 8) λ _. then (field e 8) λ _. field e 8) e (head_fault earlier)) λ _. then (field e 16) λ _. field e 16

abbrev pub numbers_of_head : ViewHeader → (ℕ × (ℕ × (ℕ × ℕ))) × (ℕ × ℕ)
numbers_of_head h = (four_of h, (h.width, h.height))

abbrev pub make_head : (ℕ × (ℕ × (ℕ × ℕ))) × (ℕ × ℕ) → ViewHeader
make_head t =
    record { number = t.0.0; position = t.0.1.0; impression = t.0.1.1.0; quality = t.0.1.1.1; width = t.1.0; height = t.1.1 }

-- ---- a view

pub record View : Type 0 where
  pub head : ViewHeader
  pub lines : List Line
  pub index : Option Index
  pub segments : List Segment

abbrev pub parts_of_view : View → (ViewHeader × List Line) × (Option Index × List Segment)
parts_of_view v = ((v.head, v.lines), (v.index, v.segments))

abbrev pub make_view : (ViewHeader × List Line) × (Option Index × List Segment) → View
make_view t = record { head = t.0.0; lines = t.0.1; index = t.1.0; segments = t.1.1 }

-- ---- the record's header

-- points per cm 1-255, c 1-16, b 4-8, k 2-8, straight step 1-255, ratio all, N 1-255
pub record FitsScale (s : Scale) : Type 0 where
  pub points : Ranged 8 1 255 s.points
  pub c : Ranged 8 1 16 s.widths.c
  pub b : Ranged 8 4 8 s.widths.b
  pub k : Ranged 8 2 8 s.widths.k
  pub step : Ranged 8 1 255 s.step
  pub ratio : s.ratio < 2 ^ 8
  pub half : Ranged 8 1 255 s.half

abbrev pub Seven : Type 0
Seven = ℕ × (ℕ × (ℕ × (ℕ × (ℕ × (ℕ × ℕ)))))

-- e is the refusal
abbrev pub scale_numbers : ℕ → Codec Bool Seven
scale_numbers e =
    then (ranged e 8 1 255) λ _. then (ranged e 8 1 16) λ _. then (ranged e 8 4 8) λ _. then (ranged e 8 2 8) λ _.
    then (ranged e 8 1 255) λ _. then (field e 8) λ _. ranged e 8 1 255

abbrev pub numbers_of_scale : Scale → Seven
numbers_of_scale s = (s.points, (s.widths.c, (s.widths.b, (s.widths.k, (s.step, (s.ratio, s.half))))))

abbrev pub make_scale : Seven → Scale
make_scale (p, (c, (b, (k, (s, (r, h)))))) = record { points = p; widths = record { c = c; b = b; k = k }; step = s; ratio = r; half = h }

pub record FitsHeader (h : Header) : Type 0 where
  pub device : h.device < 2 ^ 16
  pub scale : FitsScale h.scale

-- how wide a header's fields can be: what code counts on
pub record Narrow (w : Widths) : Type 0 where
  pub b : w.b ≤ 8
  pub c : w.c ≤ 16
  pub low : 1 ≤ w.k
  pub k : w.k ≤ 8

-- the views' number stands among the header's fields; the fields whose value is fixed give nothing
abbrev pub HeaderFields : Type 0
HeaderFields = Unit {0} × (Unit {0} × (Unit {0} × (ℕ × (ℕ × (Scale × Unit {0})))))

abbrev pub fields_of_header : Header × ℕ → HeaderFields
fields_of_header t = (tt, (tt, (tt, (t.0.device, (t.1, (t.0.scale, tt))))))

abbrev pub make_header : HeaderFields → Header × ℕ
make_header (x, (y, (z, (d, (m, (s, u)))))) = (record { device = d; scale = s }, m)

-- ---- a record

pub record Record : Type 0 where
  pub head : Header
  pub views : List View

-- P says which views fit, at the header's widths
pub record RecordFits (P : Widths → List View → Type 0) (r : Record) : Type 0 where
  pub head : FitsHeader r.head
  pub count : Ranged 8 1 255 (length r.views)
  pub views : P r.head.scale.widths r.views

abbrev pub parts_of_record : Record → (Header × ℕ) × List View
parts_of_record r = ((r.head, length r.views), r.views)

abbrev pub make_record : (Header × ℕ) × List View → Record
make_record t = record { head = t.0.0; views = t.1 }
