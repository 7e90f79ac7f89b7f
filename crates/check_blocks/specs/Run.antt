-- What the code that goes over lines, lists or segments asks and answers. It asks that fields stand from its byte on, of lengths that
-- the grammar allows; and whatever fields these are, its answer is what reading their values gives, and what they take in a record.
use Rattle.std.specs.Prelude.{◌≡◌, ℕ, ◌+◌, ◌*◌, ◌%◌, ◌≤◌, Bool, Option, Some, None, List, [], length, T, leb, eqb}
use Rattle.bits.specs.Choice.{within}
use Rattle.bits.specs.Lists.{every, total}
use Rattle.bits.specs.Codec.{got, refused}
use Rattle.bits.specs.Block.{Block}
use Rattle.outcome.specs.Refusals.{bad_value}
use Rattle.format.specs.Line.{Line, line}
use Rattle.format.specs.Index.{up}
use Rattle.format.specs.Segments.{Segment}
use Rattle.format.specs.declared.Widths.{Widths}
use Rattle.sheet.specs.Fields.{Field}
use Rattle.sheet.specs.Grammar.{front, rest}
use Rattle.sheet.specs.Values.{line_value, list_value, segment_value}
use Rattle.sheet.specs.Sheet.{each_dec, alike}
use Rattle.check_fields.specs.Fields.{FieldsAt}
use Rattle.check_blocks.specs.declared.run.Counted.{Counted}

-- ---- what is asked

-- there are such fields
pub record SomeFields (P : List Field → Type 0) : Type 0 where
  pub value : List Field
  pub holds : P value

-- the fields fs stand from byte p on, and the values of those with tag t that come first are of the lengths that the test allows
pub record Run (t : ℕ) (test : List ℕ → Bool) (s : List ℕ) (p : ℕ) (fs : List Field) : Type 0 where
  pub stand : FieldsAt s p fs
  pub right : T (every test (front t fs))

abbrev pub line_long : List ℕ → Bool
line_long v = within 12 267 (length v)

abbrev pub list_long : List ℕ → Bool
list_long v = eqb (length v % 2) 0

abbrev pub segment_long : List ℕ → Bool
segment_long v = leb 2 (length v)

pub record LineFields (s : List ℕ) (p : ℕ) (fs : List Field) : Type 0 where
  pub run : Run 3 line_long s p fs
  pub few : length (front 3 fs) ≤ 1024

pub record ListFields (s : List ℕ) (p : ℕ) (fs : List Field) : Type 0 where
  pub run : Run 5 list_long s p fs
  pub few : length (front 5 fs) ≤ 1024

abbrev pub Segments : List ℕ → ℕ → List Field → Type 0
Segments = Run 6 segment_long

-- ---- what is answered, of the values of the fields with tag t that fs starts with

module _ {A I : Type 0} (t : ℕ) (b : I → Block A) (m : I → A → I) (i : I) (fs : List Field) where
  -- takes says what a value takes in a record, and z is what they all take; the next field starts at byte e
  pub record RunRight (takes : A → ℕ) (s : List ℕ) (e z : ℕ) : Type 0 where
    pub behind : FieldsAt s e (rest t fs)
    pub value : List A
    pub reads : each_dec b m i (front t fs) ≡ got value []
    pub all : z ≡ total takes value

  pub record RunWrong : Type 0 where
    pub left : ℕ
    pub refuses : each_dec b m i (front t fs) ≡ refused bad_value left

-- in bits
abbrev pub line_bits : Widths → Line → ℕ
line_bits w l = length ((line w).enc l)

abbrev pub list_bits : ℕ → List ℕ → ℕ
list_bits w ns = w + w * length ns

-- in bytes
abbrev pub segment_takes : Segment → ℕ
segment_takes g = 4 + length g.payload

-- an answer e, z: behind p or at it, and at most so much; what it says holds whatever fields stand there
pub record RightAre (most p e z : ℕ) (P : List Field → Type 0) (Q : List Field → Type 0) : Type 0 where
  pub small : z ≤ most
  pub on : p ≤ e
  pub is : (fs : List Field) → P fs → Q fs

-- a line has at most 2,132 bits
abbrev pub LinesAre : Widths → List ℕ → ℕ → Option Counted → Type 0
LinesAre w s p (Some r) = RightAre (1024 * 2132) p r.next r.size (LineFields s p) (λ fs. RunRight 3 (λ _. line_value w) alike tt fs (line_bits w) s r.next r.size)
LinesAre w s p None = (fs : List Field) → LineFields s p fs → RunWrong 3 (λ _. line_value w) alike tt fs

-- a list has at most 16 + 16 * 32,767 bits
abbrev pub ListsAre : ℕ → List ℕ → ℕ → Option Counted → Type 0
ListsAre w s p (Some r) = RightAre (1024 * 524288) p r.next r.size (ListFields s p) (λ fs. RunRight 5 (list_value w) up 0 fs (list_bits w) s r.next r.size)
ListsAre w s p None = (fs : List Field) → ListFields s p fs → RunWrong 5 (list_value w) up 0 fs

-- segments take fewer bytes than their fields
pub record SegmentsAre (s : List ℕ) (p : ℕ) (r : Counted) : Type 0 where
  pub small : p + r.size ≤ r.next
  pub is : (fs : List Field) → Segments s p fs → RunRight 6 (λ _. segment_value) alike tt fs segment_takes s r.next r.size
