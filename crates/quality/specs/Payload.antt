-- The payload of a segment of local quality (clause 7.5.4): "cell width and height (1 to 255 each), bits per cell (we take 1 to 8),
-- then a value per cell, left to right and top to bottom, zero bits at the end up to a whole byte".
use Rattle.std.specs.Prelude.{ℕ, Bool, List, T}
use Rattle.std.proofs.Math.Option.{Option, none, some}
use Rattle.bits.specs.Choice.{pick}
use Rattle.bits.specs.Bytes.{in_bytes}
use Rattle.bits.specs.Codec.{Codec}
use Rattle.bits.specs.CodecLaws.{via}
use Rattle.bits.specs.Block.{Block}
use Rattle.bits.proofs.BlockLaws.{ended}
use Rattle.outcome.specs.Refusals.{bad_quality}
use Rattle.format.specs.declared.Image.{Image}
use Rattle.quality_parts.specs.Parts.{values_right, parts_of_values, make_values, value_parts}
use Rattle.quality_parts.proofs.PartsLaws.{quality_matches}

-- the values, without the filling
unfoldable pub values : Image → Codec Bool (List ℕ)
values image = via (value_parts image) make_values parts_of_values (λ vs. T (values_right image vs)) (quality_matches image)

unfoldable pub quality_block : Image → Block (List ℕ)
quality_block image = ended (values image) bad_quality

-- the payload of right values
abbrev pub payload_for : Image → List ℕ → List ℕ
payload_for image vs = in_bytes ((quality_block image).enc vs)

-- values as a host lends them, where they are right
abbrev pub values_lent : Image → List ℕ → Option (List ℕ)
values_lent image vs = pick (values_right image vs) (some vs) none
