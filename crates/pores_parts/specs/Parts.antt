-- The pores of a view's lines, as a value: which are right for a view, and how they go over into what stands in a payload.
use Rattle.std.specs.Prelude.{◌≡◌, ℕ, ◌^◌, ◌≤◌, ◌<◌, List, length}
use Rattle.bits.specs.Lists.{All}

-- e: bits of an element; lines: for each line of the view its distances, from pore to pore
pub record Pores : Type 0 where
  pub resolution : ℕ
  pub e : ℕ
  pub lines : List (List ℕ)

-- right for a view of n lines: "resolution (2 bytes), element bits (2 to 8)"; a distance 0 or another number of lines is refused
pub record FitsPores (n : ℕ) (p : Pores) : Type 0 where
  pub resolution : p.resolution < 2 ^ 16
  pub low : 2 ≤ p.e
  pub high : p.e ≤ 8
  pub count : length p.lines ≡ n
  pub distances : All (All (λ d. 1 ≤ d)) p.lines

-- ---- pores as parts: resolution and e ahead, then the lines

abbrev pub make_pores : (ℕ × ℕ) × List (List ℕ) → Pores
make_pores t = record { resolution = t.0.0; e = t.0.1; lines = t.1 }

abbrev pub parts_of_pores : Pores → (ℕ × ℕ) × List (List ℕ)
parts_of_pores p = ((p.resolution, p.e), p.lines)
