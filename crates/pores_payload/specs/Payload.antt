-- What the code that puts the payload of pores asks and answers: vs are the bytes that are lent for them.
use Rattle.std.specs.Prelude.{◌≡◌, ℕ, ◌≤◌, List, length, drop}
use Rattle.std.proofs.Math.Option.{some}
use Rattle.bits.specs.Codec.{got}
use Rattle.put_bytes.specs.Laid.{Laid}
use Rattle.put_bits.specs.Put.{Puts, Room}
use Rattle.pores_elements.proofs.ElementLaws.{FitsDistance, distance}
use Rattle.pores_parts.specs.Parts.{Pores}
use Rattle.pores.specs.Payload.{payload_of}
use Rattle.pores_parts.specs.Lines.{line}
use Rattle.pores.specs.Numbers.{line_numbers, fours_in, pores_from}
use Rattle.pores_payload.specs.declared.Reached.{Reached}

pub record DistanceRoom (out : List ℕ) (at d e : ℕ) : Type 0 where
  pub fits : FitsDistance e d
  pub narrow : e ≤ 8
  pub room : Room out at (length ((distance e).enc d))

abbrev pub DistancePut : (d e : ℕ) → (before : List ℕ) → ℕ → (after : List ℕ) → ℕ → Type 0
DistancePut d e before at after r = Puts ((distance e).enc d) before at after r

-- ---- a line, whose count stands at byte x .byte, at bit x .bit of the payload

pub record LineRoom (vs : List ℕ) (e : ℕ) (out : List ℕ) (x : Reached) : Type 0 where
  pub value : List ℕ
  pub behind : List ℕ
  pub reads : line_numbers.dec (fours_in (drop x.byte vs)) ≡ got value behind
  pub low : 2 ≤ e
  pub high : e ≤ 8
  pub room : Room out x.bit (length ((line e).enc value))

-- whatever line it is; the list goes on at byte y .byte
pub record LinePut (vs : List ℕ) (e : ℕ) (before : List ℕ) (x : Reached) (after : List ℕ) (y : Reached) : Type 0 where
  pub is : (ds r : List ℕ) → line_numbers.dec (fours_in (drop x.byte vs)) ≡ got ds r
      → Puts ((line e).enc ds) before x.bit after y.bit × (fours_in (drop y.byte vs) ≡ r)

-- ---- the payload

pub record PayloadRoom (lines : ℕ) (vs : List ℕ) (e : ℕ) (out : List ℕ) : Type 0 where
  pub value : Pores
  pub is : pores_from lines vs ≡ some value
  pub bits : e ≡ value.e
  pub small : length (payload_of value) ≤ 65535
  pub room : length (payload_of value) ≤ length out

pub record PayloadLaid (lines : ℕ) (vs before after : List ℕ) (n : ℕ) : Type 0 where
  pub is : (p : Pores) → pores_from lines vs ≡ some p → Laid (payload_of p) before after n
