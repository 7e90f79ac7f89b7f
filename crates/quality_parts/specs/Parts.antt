-- Local quality as a host has it: "the payload as its first three bytes and a byte per cell". Which of these values are right for a
-- view, and how they go over into the numbers that stand in the payload, one behind the other.
use Rattle.std.specs.Prelude.{ℕ, ◌+◌, ◌-◌, ◌*◌, ◌/◌, ◌^◌, Bool, false, List, [], ◌∷◌, length, eqb, ltb}
use Rattle.bits.specs.Choice.{within}
use Rattle.bits.specs.Lists.{every, all_true}
use Rattle.bits.specs.Codec.{Codec}
use Rattle.bits.specs.CodecLaws.{field, then, times, ranged}
use Rattle.outcome.specs.Refusals.{bad_quality}
use Rattle.format.specs.declared.Image.{Image}

-- n over d, rounded up
abbrev pub rounded_up : (n d : ℕ) → ℕ
rounded_up n d = (n + (d - 1)) / d

-- "The cells in a row are the view's width over the cell width, rounded up; rows likewise." width and height are those of
-- a cell.
unfoldable pub cells : Image → (width height : ℕ) → ℕ
cells image width height = rounded_up image.width width * rounded_up image.height height

-- "cell width and height (1 to 255 each), bits per cell (we take 1 to 8), then a value per cell"
abbrev pub values_right : Image → List ℕ → Bool
values_right image [] = false
values_right image (width ∷ []) = false
values_right image (width ∷ height ∷ []) = false
values_right image (width ∷ height ∷ bits ∷ vs) =
    all_true (within 1 255 width ∷ within 1 255 height ∷ within 1 8 bits ∷ eqb (length vs) (cells image width height) ∷ every (λ v. ltb v (2 ^ bits)) vs ∷ [])

-- ---- values as parts: cell width, cell height, bits per cell, and the cells' values

abbrev pub parts_of_values : List ℕ → ℕ × (ℕ × (ℕ × List ℕ))
parts_of_values [] = (0, (0, (0, [])))
parts_of_values (width ∷ []) = (0, (0, (0, [])))
parts_of_values (width ∷ height ∷ []) = (0, (0, (0, [])))
parts_of_values (width ∷ height ∷ bits ∷ vs) = (width, (height, (bits, vs)))

abbrev pub make_values : ℕ × (ℕ × (ℕ × List ℕ)) → List ℕ
make_values t = t.0 ∷ t.1.0 ∷ t.1.1.0 ∷ t.1.1.1

-- as they stand in the payload; how many cells there are follows from their size
abbrev pub value_parts : Image → Codec Bool (ℕ × (ℕ × (ℕ × List ℕ)))
value_parts image =
    then (ranged bad_quality 8 1 255) λ width. then (ranged bad_quality 8 1 255) λ height. then (ranged bad_quality 8 1 8) λ bits.
    times (field bad_quality bits) (cells image width height)
