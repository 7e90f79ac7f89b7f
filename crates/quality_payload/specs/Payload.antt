-- What the code that judges values of local quality, and that puts the payload they make, asks and answers.
use Rattle.std.specs.Prelude.{ℕ, ◌+◌, ◌*◌, ◌/◌, ◌≤◌, not, List, length, T, Option, Some, None}
use Rattle.put_bytes.specs.Laid.{Laid}
use Rattle.format.specs.declared.Image.{Image}
use Rattle.quality_parts.specs.Parts.{values_right}
use Rattle.quality.specs.Payload.{payload_for}
use Rattle.quality_cells.specs.Grid.{Started}
use Rattle.quality_cells.specs.declared.Grid.{Grid}

-- the values vs are right, and g is what the first three say
pub record RightValues (image : Image) (vs : List ℕ) (g : Grid) : Type 0 where
  pub right : T (values_right image vs)
  pub start : Started image vs g

abbrev pub ValuesJudged : Image → List ℕ → Option Grid → Type 0
ValuesJudged image vs (Some g) = RightValues image vs g
ValuesJudged image vs None = T (not (values_right image vs))

-- ---- their payload

pub record PayloadRoom (vs : List ℕ) (g : Grid) (out : List ℕ) : Type 0 where
  pub image : Image
  pub right : RightValues image vs g
  pub small : 3 + (g.cells * g.bits + 7) / 8 ≤ 65535
  pub room : 3 + (g.cells * g.bits + 7) / 8 ≤ length out

pub record PayloadLaid (vs : List ℕ) (g : Grid) (before after : List ℕ) (n : ℕ) : Type 0 where
  pub is : (image : Image) → RightValues image vs g → Laid (payload_for image vs) before after n
