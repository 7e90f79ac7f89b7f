-- What the code that judges a stored payload of local quality, and that lays its values, asks and answers.
use Rattle.std.specs.Prelude.{◌≡◌, ℕ, ◌+◌, ◌≤◌, List, [], length, Option, Some, None}
use Rattle.std.proofs.Math.Option.{none}
use Rattle.bits.specs.Bytes.{bits_of}
use Rattle.bits.specs.Codec.{got, value_of}
use Rattle.put_bytes.specs.Laid.{Laid}
use Rattle.format.specs.declared.Image.{Image}
use Rattle.quality.specs.Payload.{quality_block}
use Rattle.quality_cells.specs.Grid.{SmallImage, Started}
use Rattle.quality_cells.specs.declared.Grid.{Grid}

-- the payload s has values, and g is what its first three bytes say
pub record RightPayload (image : Image) (s : List ℕ) (g : Grid) : Type 0 where
  pub values : List ℕ
  pub reads : (quality_block image).dec (bits_of s) ≡ got values []
  pub start : Started image s g

pub record PayloadThere (image : Image) (s : List ℕ) : Type 0 where
  pub small : SmallImage image
  pub short : length s ≤ 65535

abbrev pub PayloadJudged : Image → List ℕ → Option Grid → Type 0
PayloadJudged image s (Some g) = RightPayload image s g
PayloadJudged image s None = value_of ((quality_block image).dec (bits_of s)) ≡ none

-- ---- its values: the first three bytes and a byte per cell

pub record ValuesRoom (s : List ℕ) (g : Grid) (out : List ℕ) : Type 0 where
  pub image : Image
  pub right : RightPayload image s g
  pub short : length s ≤ 65535
  pub room : 3 + g.cells ≤ length out

pub record ValuesLaid (s : List ℕ) (g : Grid) (before after : List ℕ) (n : ℕ) : Type 0 where
  pub is : (image : Image) (R : RightPayload image s g) → Laid R.values before after n
