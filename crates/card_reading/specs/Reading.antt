-- What the code that reads a card's object asks and answers: the judge, and the writer of the record.
use Rattle.std.specs.Prelude.{◌≡◌, ℕ, ◌+◌, ◌-◌, ◌*◌, ◌≤◌, ◌<◌, Result, Ok, Err, List, [], ◌∷◌, ◌++◌, length, take, drop, leb}
use Rattle.bits.specs.Choice.{pick}
use Rattle.bits.specs.Bytes.{bits_of}
use Rattle.bits.specs.Codec.{got}
use Rattle.bits.specs.Codec as C
use Rattle.put_bytes.specs.HighFirst.{two}
use Rattle.outcome.specs.Refusals.{too_long}
use Rattle.outcome.specs.Outcome.{Outcome, refused, given, Answers}
use Rattle.outcome.specs.Why.{number}
use Rattle.outcome.specs.declared.Answer.{Answer}
use Rattle.outcome.specs.declared.refusal.Refused.{Refused}
use Rattle.format.specs.Limits.{most_bytes}
use Rattle.format.specs.declared.Widths.{Widths}
use Rattle.format.specs.declared.Scale.{Scale}
use Rattle.find_parts.specs.Stored.{scale_bytes}
use Rattle.card.specs.Card.{Content, card}
use Rattle.card.specs.Stored.{value_out}
use Rattle.card_shape.specs.declared.Value.{Value}

-- ---- what is asked of a size

abbrev pub NarrowWidths : Widths → Type 0
NarrowWidths w = (w.b ≤ 8) × (w.c ≤ 16) × (w.k ≤ 8)

-- each of its numbers is a byte
pub record SmallScale (s : Scale) : Type 0 where
  pub points : s.points < 256
  pub c : s.widths.c < 256
  pub b : s.widths.b < 256
  pub k : s.widths.k < 256
  pub step : s.step < 256
  pub ratio : s.ratio < 256
  pub half : s.half < 256

-- ---- the judge: the object is read as a content, whose value stands at x, or refused

pub record Carded (w : Widths) (object : List ℕ) (x : Value) : Type 0 where
  pub value : Content
  pub reads : (card w).dec (bits_of object) ≡ got value []
  pub ordered : x.from ≤ x.to
  pub within : x.to ≤ length object
  pub bytes : take (x.to - x.from) (drop x.from object) ≡ value_out w value

abbrev pub CardFound : Widths → List ℕ → Result Value Refused → Type 0
CardFound w object (Ok x) = Carded w object x
CardFound w object (Err r) = ((card w).dec (bits_of object) ≡ C.refused (number r.why) (8 * length object - r.place)) × (r.place ≤ 8 * length object)

-- ---- the record of one view, which has this value

-- up to the value: the header of a record with n bytes, and the first four bytes of the view
abbrev pub head_for : Scale → (n : ℕ) → List ℕ
head_for s n =
    ((((0x46 ∷ 0x53 ∷ 0x4B ∷ 0x00 ∷ 0x30 ∷ 0x31 ∷ 0x30 ∷ 0x00 ∷ 0x00 ∷ 0x00 ∷ []) ++ two n) ++ (0x00 ∷ 0x00 ∷ 0x01 ∷ [])) ++ scale_bytes s)
    ++ (0x00 ∷ 0x00 ∷ 0x00 ∷ 0x00 ∷ 0x00 ∷ 0x00 ∷ [])

-- behind the value an extended length of 0
abbrev pub record_for : Scale → List ℕ → List ℕ
record_for s value = (head_for s (30 + length value) ++ value) ++ two 0

pub record RecordRoom (value : List ℕ) (s : Scale) (out : List ℕ) : Type 0 where
  pub scale : SmallScale s
  pub short : 30 + length value ≤ 32768
  pub room : 30 + length value ≤ length out

-- it is given where it is short enough
abbrev pub given_of : Scale → List ℕ → Outcome ℕ
given_of s value = pick (leb (30 + length value) most_bytes) (given (record_for s value)) (refused too_long 0)

-- and where there is room
pub record RecordGiven (value : List ℕ) (s : Scale) (before after : List ℕ) (r : Answer) : Type 0 where
  pub is : (o : Outcome ℕ) → o ≡ given_of s value → Answers o before after r
