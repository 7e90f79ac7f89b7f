-- A format of payloads, whatever it is of: the type of its segments, the number that is given where its rules are broken, which values
-- are right, and the payload that they make. It comes with its laws, and the two calls on such payloads are defined of any format
-- (Called).
use Rattle.std.specs.Prelude.{◌≡◌, ℕ, List}
use Rattle.std.proofs.Math.Option.{Option, some}
use Rattle.bits.specs.Lists.{All}
use Rattle.bits.specs.Bytes.{Byte}
use Rattle.format.specs.View.{View}
use Rattle.format.specs.Places.{image_of, count}
use Rattle.format.specs.declared.Image.{Image}

-- what of its view a payload goes by: the size of the image, and how many lines there are
pub record Frame : Type 0 where
  pub image : Image
  pub lines : ℕ

abbrev pub frame_of : View → Frame
frame_of v = record { image = image_of v; lines = count v }

-- A: its values
pub record PayloadFormat (A : Type 0) : Type 1 where
  pub kind : ℕ
  pub bad : ℕ
  pub Right : Frame → A → Type 0
  -- the payload of values, and what a payload says: right values, or nothing
  pub payload : Frame → A → List ℕ
  pub says : Frame → List ℕ → Option A
  -- values as a host has them: the elements that reading gives, how they stand as bytes, and what bytes that are lent say
  pub elements : A → List ℕ
  pub in_bytes : List ℕ → List ℕ
  pub lent : Frame → List ℕ → Option A
  -- a payload is bytes; what is written is read; what is read is right and was written
  pub bytes : (f : Frame) (a : A) → All Byte (payload f a)
  pub there : (f : Frame) (a : A) → Right f a → says f (payload f a) ≡ some a
  pub back : (f : Frame) (p : List ℕ) (a : A) → All Byte p → says f p ≡ some a → Right f a × (p ≡ payload f a)
  -- the same of what is lent: right values are lent as the bytes of their elements, and no others
  pub lent_there : (f : Frame) (a : A) → Right f a → lent f (in_bytes (elements a)) ≡ some a
  pub lent_back : (f : Frame) (b : List ℕ) (a : A) → All Byte b → lent f b ≡ some a → Right f a × (b ≡ in_bytes (elements a))
