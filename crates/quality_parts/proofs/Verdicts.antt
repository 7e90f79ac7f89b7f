-- How many cells a view has, computed: "the view's width over the cell width, rounded up; rows likewise".
use mathlib.Core.Path.{◌≡◌, refl}
use Prim.Native.Nat.{ℕ}
use mathlib.Core.List.{List, [], ◌∷◌}
use Rattle.format.specs.declared.Image.{Image}
use Rattle.quality_parts.specs.Parts.{cells}

-- 256 by 256 points
abbrev image : Image
image = record { width = 256; height = 256 }

-- two by two exactly; three by three, and twice two by two, rounded up
pub cells_of : cells image 128 128 ∷ cells image 100 100 ∷ cells image 128 255 ∷ cells image 255 255 ∷ [] ≡ 4 ∷ 9 ∷ 4 ∷ 4 ∷ []
unfolding cells
cells_of = refl
