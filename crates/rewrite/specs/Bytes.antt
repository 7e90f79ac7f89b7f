-- What stays, in bytes, where the payload of a segment is rewritten: all but the payload, its segment's length, the extended length
-- and the record length.
use Rattle.std.specs.Prelude.{◌≡◌, ℕ, ◌+◌, ◌-◌, ◌/◌, List, [], length, drop}
use Rattle.std.proofs.Math.Seq.{slice}
use Rattle.bits.specs.Codec.{got}
use Rattle.format.specs.Record.{Record, read, Allowed}
use Rattle.format.specs.Places.{view_at, segment_at, bits_before, bits_ahead, first_bit}
use Rattle.rewrite.specs.Rewrite.{rewritten}

-- the first byte of view i's extended length, and of the segment's payload, in the bytes of the record r
abbrev pub extended_byte : (i : ℕ) → Record → ℕ
extended_byte i r = (bits_before r i + bits_ahead r.head.scale.widths (view_at r i)) / 8 - 2

abbrev pub payload_byte : (i place : ℕ) → Record → ℕ
payload_byte i place r = first_bit i place r / 8

-- old are the bytes of the record r, new those with that payload; `slice from to` is what stands from one byte on and before the other
pub record Rewrites (i place : ℕ) (payload : List ℕ) (r : Record) (old new : List ℕ) : Type 0 where
  -- the new record is allowed
  pub allowed : Allowed (rewritten i place payload r)
  pub reads : read new ≡ got (rewritten i place payload r) []
  -- before the record length, and from there up to the extended length
  pub front : slice 0 8 new ≡ slice 0 8 old
  pub fields : slice 12 (extended_byte i r) new ≡ slice 12 (extended_byte i r) old
  -- the segments before it, and its type
  pub before : slice (extended_byte i r + 2) (payload_byte i place r - 2) new ≡ slice (extended_byte i r + 2) (payload_byte i place r - 2) old
  -- its payload
  pub inside : slice (payload_byte i place r) (payload_byte i place r + length payload) new ≡ payload
  -- and all that follows it
  pub behind : drop (payload_byte i place r + length payload) new ≡ drop (payload_byte i place r + length (segment_at (view_at r i) place).payload) old
