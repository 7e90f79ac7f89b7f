-- What going over the segments of an extended block comes to, and what it asks.
use Rattle.std.specs.Prelude.{◌≡◌, ℕ, zero, suc, ◌+◌, ◌*◌, List, [], ◌∷◌, length, take, drop, get_or}
use Rattle.bits.specs.Lists.{All}
use Rattle.put_bytes.specs.HighFirst.{joined}
use Rattle.format.specs.Segments.{Segment, FitsSegment}
use Rattle.find_parts.specs.Finds.{segment_stored}

-- how long the first segment says that it is
abbrev pub stated : List ℕ → ℕ
stated s = get_or s 2 0 * 256 + get_or s 3 0

-- n segments at most
abbrev pub cut_into : ℕ → List ℕ → List (List ℕ)
cut_into zero s = []
cut_into (suc n) [] = []
cut_into (suc n) (b ∷ s) = take (stated (b ∷ s)) (b ∷ s) ∷ cut_into n (drop (stated (b ∷ s)) (b ∷ s))

-- the bytes of each, one behind the other
unfoldable pub segments_in : List ℕ → List (List ℕ)
segments_in s = cut_into (length s) s

-- what is asked: segments fill the bytes
pub record Whole (s : List ℕ) : Type 0 where
  pub values : List Segment
  pub fit : All FitsSegment values
  pub is : s ≡ joined segment_stored values
