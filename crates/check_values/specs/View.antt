-- What the code that goes over a view asks and answers: from its byte on stand fields of which the first view obeys the grammar, and
-- the answer is what reading that view gives, and how many bytes it takes in a record.
use Rattle.std.specs.Prelude.{◌≡◌, ℕ, ◌+◌, ◌*◌, ◌≤◌, ◌<◌, Option, Some, None, List, [], ◌∷◌, length, T}
use Rattle.bits.specs.Codec.{got, refused}
use Rattle.outcome.specs.Refusals.{bad_value}
use Rattle.format.specs.View.{View, view}
use Rattle.format.specs.declared.Widths.{Widths}
use Rattle.judge_heads.specs.Answers.{Seen}
use Rattle.sheet.specs.Fields.{Field}
use Rattle.sheet.specs.Grammar.{RawView, view_in}
use Rattle.sheet.specs.Sheet.{view_from}
use Rattle.check_fields.specs.Fields.{FieldsAt}
use Rattle.check_shape.specs.Shape.{view_right, view_rest}
use Rattle.check_values.specs.declared.view.Sized.{Sized}

pub record ViewToCheck (s : List ℕ) (p : ℕ) (fs : List Field) : Type 0 where
  pub stand : FieldsAt s p fs
  pub right : T (view_right fs)

-- the first view, whose 02 is the first field
abbrev pub raw_in : List Field → RawView
raw_in [] = view_in ([], [])
raw_in (f ∷ fs) = view_in (f.value, fs)

-- the view, behind others with the positions ps
module _ (w : Widths) (ps : List ℕ) (fs : List Field) where
  pub record ViewRight (s : List ℕ) (v : Sized) : Type 0 where
    pub behind : FieldsAt s v.end (view_rest fs)
    pub value : View
    pub reads : view_from w ps (raw_in fs) ≡ got value []
    pub position : v.position ≡ value.head.position
    pub all : length ((view w ps).enc value) ≡ 8 * v.bytes

  pub record ViewWrong : Type 0 where
    pub left : ℕ
    pub refuses : view_from w ps (raw_in fs) ≡ refused bad_value left

-- but for its extended block, a view takes less than 2 to the 27 bytes; that block takes no more than its fields do
pub record SizedIs (w : Widths) (seen s : List ℕ) (p : ℕ) (v : Sized) : Type 0 where
  pub on : p < v.end
  pub small : p + v.bytes ≤ v.end + 134217728
  pub eleven : v.position ≤ 10
  pub is : (fs : List Field) → ViewToCheck s p fs → (ps : List ℕ) → Seen seen ps → ViewRight w ps fs s v

abbrev pub ViewIs : Widths → List ℕ → List ℕ → ℕ → Option Sized → Type 0
ViewIs w seen s p (Some v) = SizedIs w seen s p v
ViewIs w seen s p None = (fs : List Field) → ViewToCheck s p fs → (ps : List ℕ) → Seen seen ps → ViewWrong w ps fs
