-- The extended data. "Segments filling it: type (2), length (2) counting its own 4 bytes, payload." Refusal 11: "a segment length
-- under 4 or past its block, or 1 to 3 bytes over".
use Rattle.std.specs.Prelude.{◌≡◌, ℕ, ◌+◌, ◌-◌, ◌*◌, ◌%◌, ◌<◌, Bool, List, length, leb, eqb}
use Rattle.std.proofs.Common.{arith, length-append}
use Rattle.bits.specs.BitsLaws.{length_bits}
use Rattle.bits.specs.Codec.{Codec}
use Rattle.bits.specs.CodecLaws.{field, then, via, only, times}
use Rattle.bits.specs.RefusingLaws.{whole, room}
use Rattle.bits.specs.Block.{Block}
use Rattle.bits.proofs.BlockLaws.{fill}
use Rattle.outcome.specs.Refusals.{bad_segment}
pub use Rattle.format.specs.Parts.{Segment, FitsSegment}
use Rattle.format.specs.Parts.{make_segment, parts_of_segment}
pub use Rattle.format.specs.PartsLaws.{length_bytes}
use Rattle.format.specs.PartsLaws.{segment_matches, segment_long_lem}

-- the length and the payload: a length under 4 or past the block is at fault itself
abbrev pub measured : Codec Bool (ℕ × List ℕ)
measured = whole (then (only (field bad_segment 16) bad_segment (leb 4)) λ n. times (field bad_segment 8) (n - 4))

-- four bytes are there, or the first of those left over is at fault
unfoldable pub segment : Codec Bool Segment
segment =
    via (room (then (field bad_segment 16) λ _. measured) bad_segment 32 (λ t h. segment_long_lem bad_segment t.0 t.1.0 t.1.1))
    make_segment parts_of_segment FitsSegment segment_matches

-- a segment of local quality (clause 7.5.4), by its type
abbrev pub local_quality : ℕ
local_quality = 0x0003

abbrev pub is_quality : Segment → Bool
is_quality g = eqb g.kind local_quality

-- and one of sweat pores (clause 7.5.5)
abbrev pub sweat_pores : ℕ
sweat_pores = 0x0004

abbrev pub is_pores : Segment → Bool
is_pores g = eqb g.kind sweat_pores

-- ---- the block

pub segment_length : (g : Segment) → length (segment.enc g) ≡ 32 + 8 * length g.payload
unfolding segment
segment_length g = simp (length-append, length_bits, length_bytes) (omega arith)

pub segment_some : (g : Segment) → 0 < length (segment.enc g)
segment_some g = omega (arith, segment_length g)

pub segment_whole : (g : Segment) → length (segment.enc g) % 8 ≡ 0
segment_whole g = omega (arith, segment_length g)

unfoldable pub segments : Block (List Segment)
segments = fill segment bad_segment segment_some segment_whole
