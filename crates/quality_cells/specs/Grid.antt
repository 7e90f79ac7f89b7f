-- What the first three bytes say, of a payload of local quality or of values to be written: how many cells there are, and how many
-- bits each has.
use Rattle.std.specs.Prelude.{◌≡◌, ℕ, ◌*◌, ◌≤◌, ◌<◌, List, ◌∷◌, take, T, Option, Some, None}
use Rattle.bits.specs.Choice.{within}
use Rattle.format.specs.declared.Image.{Image}
use Rattle.quality_parts.specs.Parts.{cells, values_right}
use Rattle.quality_cells.specs.declared.Grid.{Grid}

-- a view's header has 16 bits for each
pub record SmallImage (image : Image) : Type 0 where
  pub width : image.width < 65536
  pub height : image.height < 65536

-- s starts with a cell's width and height and the bits of its value, each right, and g says so
pub record Started (image : Image) (s : List ℕ) (g : Grid) : Type 0 where
  pub width : ℕ
  pub height : ℕ
  pub rest : List ℕ
  pub is : s ≡ width ∷ height ∷ g.bits ∷ rest
  pub wide : T (within 1 255 width)
  pub high : T (within 1 255 height)
  pub narrow : T (within 1 8 g.bits)
  pub cells : g.cells ≡ cells image width height
  pub few : g.cells ≤ 65535 * 65535

-- no right values start as s does
pub record NoStart (s : List ℕ) : Type 0 where
  pub is : (image : Image) (vs : List ℕ) → T (values_right image vs) → take 3 vs ≡ take 3 s → ⊥

abbrev pub GridFound : Image → List ℕ → Option Grid → Type 0
GridFound image s (Some g) = Started image s g
GridFound image s None = NoStart s
