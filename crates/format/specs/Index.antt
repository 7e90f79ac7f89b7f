-- The neighbour index. "Length 0 means no index. Otherwise one byte w (1-16), then for each line, in order, a count (w bits) and
-- that many differences (w bits each), then 0 to 7 zero bits up to the block's end."
use Rattle.std.specs.Prelude.{ℕ, ◌<◌, Bool, List, length}
use Rattle.std.proofs.Common.{arith, length-append}
use Rattle.std.proofs.Math.Option.{Option}
use Rattle.bits.specs.Bits.{filled}
use Rattle.bits.specs.BitsLaws.{length_bits}
use Rattle.bits.specs.Codec.{Codec}
use Rattle.bits.specs.CodecLaws.{field, then, via, along, ranged}
use Rattle.bits.specs.Block.{Block}
use Rattle.bits.proofs.BlockLaws.{ended, maybe}
use Rattle.outcome.specs.Refusals.{bad_index}
use Rattle.differences.specs.Differences.{diff, tell_difference}
pub use Rattle.format.specs.Parts.{FitsList, Index, up, FitsIndex}
use Rattle.format.specs.Parts.{make_list, differences_of, make_index, parts_of_index}
use Rattle.format.specs.PartsLaws.{list_matches, index_matches}

-- line l's neighbours at width w
abbrev pub neighbours : ℕ → ℕ → Codec Bool (List ℕ)
neighbours w l = via (then (field bad_index w) λ n. along (diff w) tell_difference n (0, l)) (make_list l) (differences_of l) (FitsList w l) (list_matches w l)

-- the block without its filling; n is how many lines there are
unfoldable pub index : ℕ → Codec Bool Index
index n = via (then (ranged bad_index 8 1 16) λ w. along (neighbours w) up n 0) make_index parts_of_index (FitsIndex n) (index_matches n)

-- ---- the block

pub index_bits_lem : (n : ℕ) (i : Index) → 0 < length (filled ((index n).enc i))
unfolding index
index_bits_lem n i = simp (length-append, length_bits) (omega arith)

unfoldable pub index_block : ℕ → Block (Option Index)
index_block n = maybe (ended (index n) bad_index) (index_bits_lem n)
