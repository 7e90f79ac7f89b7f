-- The evidence that values and payload of local quality give each other back: what the format of its payloads cites.
use Rattle.std.specs.Prelude.{◌≡◌, ℕ, List, [], T}
use Rattle.std.proofs.Common.{subst, arith}
use Rattle.std.proofs.Math.Option.{some}
use Rattle.bits.specs.ChoiceLaws.{pick_yes, pick_split}
use Rattle.bits.specs.Lists.{All}
use Rattle.bits.specs.Bits.{Bits}
use Rattle.bits.specs.Bytes.{Byte, bits_of}
use Rattle.bits.specs.Codec.{got}
use Rattle.bits.specs.BlockBytes.{value_there, value_back}
use Rattle.format.specs.declared.Image.{Image}
use Rattle.quality_parts.specs.Parts.{values_right}
use Rattle.quality.specs.Payload.{values, quality_block, payload_for, values_lent}

module _ (image : Image) where
  -- right values are read back from the payload that they make
  pub payload_there : (vs : List ℕ) → T (values_right image vs) → (quality_block image).dec (bits_of (payload_for image vs)) ≡ got vs []
  unfolding quality_block values
  payload_there = value_there (quality_block image)

  -- values that are read are right, and make the payload
  pub payload_back : (p vs : List ℕ) (rest : Bits) → All Byte p → (quality_block image).dec (bits_of p) ≡ got vs rest → T (values_right image vs) × (p ≡ payload_for image vs)
  unfolding quality_block values
  payload_back = value_back (quality_block image)

  -- the same of values that are lent
  pub lent_there : (vs : List ℕ) → T (values_right image vs) → values_lent image vs ≡ some vs
  lent_there vs t = pick_yes (values_right image vs) _ _ t

  pub lent_back : (vs us : List ℕ) → values_lent image vs ≡ some us → T (values_right image us) × (vs ≡ us)
  lent_back vs us h =
      pick_split (values_right image vs) _ _ h (λ t e. let s : vs ≡ us = cc in (subst (λ (xs : List ℕ). T (values_right image xs)) s t, s))
      (λ t e. let z : ◌≡◌ {A = ℕ} 0 1 = cc in absurd (omega arith))
