-- The length of a data object. "Lengths take BER's shortest form (one byte; 81 above 127; 82 above 255)."
use Rattle.std.specs.Prelude.{◌≡◌, ℕ, ◌%◌, ◌^◌, ◌<◌, Bool, length}
use Rattle.bits.specs.Codec.{Codec}
use Rattle.bits.specs.CodecLaws.{via}
use Rattle.bits.specs.RefusingLaws.{whole}
use Rattle.card.specs.LengthParts.{length_parts, make_length, parts_of_length}
use Rattle.card.specs.LengthLaws.{length_matches, parts_whole}

-- a refusal inside is one of the whole: its place is the length's first bit
unfoldable pub object_length : Codec Bool ℕ
object_length = whole (via length_parts make_length parts_of_length (λ n. n < 2 ^ 16) length_matches)

pub length_whole : (n : ℕ) → length (object_length.enc n) % 8 ≡ 0
unfolding object_length
length_whole n = parts_whole (parts_of_length n)
