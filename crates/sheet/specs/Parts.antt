-- The parts of a sheet as values: which are allowed, and how each goes over into what stands in a field, one behind the other. How they
-- are written is said in Fields and Values.
use Rattle.std.specs.Prelude.{ℕ, ◌^◌, ◌<◌, List, length, T, ltb}
use Rattle.bits.specs.Lists.{All}
use Rattle.bits.specs.Bytes.{Byte}
use Rattle.format.specs.Parts.{EndFits, Line, Segment}
use Rattle.format.specs.declared.Widths.{Widths}
use Rattle.format.specs.declared.Scale.{Scale}
use Rattle.format.specs.declared.Header.{Header}
use Rattle.format.specs.declared.End.{End}
use Rattle.sheet_codes.specs.Code.{CodeValue}

-- ---- a tagged field

pub record Field : Type 0 where
  pub tag : ℕ
  pub value : List ℕ

pub record FitsField (f : Field) : Type 0 where
  pub tag : f.tag < 2 ^ 8
  pub length : length f.value < 2 ^ 16
  pub value : All Byte f.value

abbrev pub parts_of_field : Field → ℕ × List ℕ
parts_of_field f = (f.tag, f.value)

abbrev pub make_field : ℕ × List ℕ → Field
make_field t = record { tag = t.0; value = t.1 }

-- ---- 01: a header fits where the record's does (`FitsHeader`, format/specs/Parts)

abbrev pub value_of_header : Header → ℕ × Scale
value_of_header h = (h.device, h.scale)

abbrev pub header_of_value : ℕ × Scale → Header
header_of_value t = record { device = t.0; scale = t.1 }

-- ---- 03

-- a number written in w bits that needs at most m
abbrev pub Below : ℕ → ℕ → ℕ → Type 0
Below w m n = (n < 2 ^ w) × T (ltb n (2 ^ m))

abbrev pub EndValue : Widths → End → Type 0
EndValue w = EndFits (Below 8 2) (Below 8 w.b) (Below 16 w.c)

pub record LineValue (w : Widths) (l : Line) : Type 0 where
  pub start : EndValue w l.start
  pub finish : EndValue w l.finish
  pub codes : All (CodeValue w.k) l.codes

abbrev pub value_of_line : Line → (End × End) × List ℕ
value_of_line l = ((l.start, l.finish), l.codes)

abbrev pub line_of_value : (End × End) × List ℕ → Line
line_of_value t = record { start = t.0.0; codes = t.1; finish = t.0.1 }

-- ---- 06

pub record SegmentValue (g : Segment) : Type 0 where
  pub kind : g.kind < 2 ^ 16
  pub payload : All Byte g.payload

abbrev pub value_of_segment : Segment → ℕ × List ℕ
value_of_segment g = (g.kind, g.payload)

abbrev pub segment_of_value : ℕ × List ℕ → Segment
segment_of_value t = record { kind = t.0; payload = t.1 }
