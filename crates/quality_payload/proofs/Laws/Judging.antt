-- Values that start right: they are right where there are as many as cells, and each fits the bits of a cell.
use mathlib.Core.Path.{◌≡◌}
use Prim.Native.Nat.{ℕ, ◌-◌, ◌^◌, ◌<◌}
use native.Mathlib.Omega.{arith}
use mathlib.Core.List.{List}
use lib.ListN.{length, drop, get_or, length-drop}
use lib.Seq.{take_all}
use Rattle.bits.specs.Lists.{All}
use Rattle.bits.specs.ListsLaws.{at_all}
use Rattle.bits.proofs.Laws.Parts.{part}
use Rattle.format.specs.declared.Image.{Image}
use Rattle.quality_parts.proofs.PartsLaws.{values_small}
use Rattle.quality_cells.specs.declared.Grid.{Grid}
use Rattle.quality_cells.specs.Grid.{Started}
use Rattle.quality_cells.proofs.Laws.Written.{cells_right}
use Rattle.quality_payload.specs.Payload.{RightValues}

-- the cells' values, as code cuts them out
abbrev pub cell_values : List ℕ → List ℕ
cell_values vs = part vs 3 (length vs - 3)

pub cell_values_are : (vs : List ℕ) → cell_values vs ≡ drop 3 vs
cell_values_are vs = take_all (length vs - 3) (drop 3 vs) (omega (arith, length-drop 3 vs))

pub values_right_lem : {image : Image} {vs : List ℕ} {g : Grid} {limit : ℕ} → Started image vs g → length (cell_values vs) ≡ g.cells → limit ≡ 2 ^ g.bits
    → ((i : ℕ) → i < length (cell_values vs) → get_or (cell_values vs) i 0 < limit) → RightValues image vs g
values_right_lem {image} {vs} {g} h n e f =
    let small : All (λ v. v < 2 ^ g.bits) (drop 3 vs) = at_all (λ v. v < 2 ^ g.bits) 0 (drop 3 vs) (rw (cell_values_are vs, e) at f) in
    record { right = cells_right h (rw (cell_values_are vs) at n) (values_small g.bits (drop 3 vs) small); start = h }
