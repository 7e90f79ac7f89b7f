-- What the code that lays the numbers of a payload of sweat pores asks and leaves.
use Rattle.std.specs.Prelude.{◌≡◌, ℕ, ◌+◌, ◌*◌, ◌≤◌, List, ◌∷◌, length, drop}
use Rattle.std.proofs.Math.Option.{some}
use Rattle.bits.specs.Bits.{Bits}
use Rattle.bits.specs.Bytes.{bits_of}
use Rattle.bits.specs.Codec.{got}
use Rattle.put_bytes.specs.Laid.{Laid}
use Rattle.put_bytes.specs.HighFirst.{four, joined}
use Rattle.pores_elements.specs.Before.{row_dec}
use Rattle.pores_parts.specs.Parts.{Pores}
use Rattle.pores.specs.Payload.{pores_in}
use Rattle.pores_parts.specs.Lines.{line}
use Rattle.pores.specs.Numbers.{numbers_of}
use Rattle.pores_lines.specs.Found.{ElementsThere}
use Rattle.pores_judge.specs.Judged.{RightPayload}
use Rattle.pores_values.specs.declared.LinePut.{LinePut}

-- ---- a line: at place `at` of the payload s, with elements of e bits

-- "per line a count and that many"
abbrev pub with_count : List ℕ → List ℕ
with_count ds = length ds ∷ ds

-- a line is there, and there is room for its distances and so many numbers more
pub record LineRoom (more : ℕ) (s : List ℕ) (at e : ℕ) (out : List ℕ) : Type 0 where
  pub elements : ElementsThere s at e
  pub distances : List ℕ
  pub behind : Bits
  pub reads : (line e).dec (drop at (bits_of s)) ≡ got distances behind
  pub room : 4 * (more + length distances) ≤ length out

-- whatever its distances are: form has their numbers, which are laid, and the place behind it is told
pub record LineLaid (form : List ℕ → List ℕ) (s : List ℕ) (at e : ℕ) (before after : List ℕ) (r : LinePut) : Type 0 where
  pub laid : (ds : List ℕ) (behind : Bits) → (line e).dec (drop at (bits_of s)) ≡ got ds behind → Laid (joined four (form ds)) before after r.length
  pub place : (ds : List ℕ) (behind : Bits) → (line e).dec (drop at (bits_of s)) ≡ got ds behind → behind ≡ drop r.next (bits_of s)
  -- an element has two bits or more
  pub short : (ds : List ℕ) (behind : Bits) → (line e).dec (drop at (bits_of s)) ≡ got ds behind → at + 2 * (1 + length ds) ≤ r.next
  pub within : r.next ≤ 8 * length s

-- ---- the lines of a payload, from place 24 on

pub record LinesRoom (n : ℕ) (s : List ℕ) (e : ℕ) (out : List ℕ) : Type 0 where
  pub elements : ElementsThere s 24 e
  pub lines : List (List ℕ)
  pub behind : Bits
  pub reads : row_dec (line e) n (drop 24 (bits_of s)) ≡ got lines behind
  pub room : 4 * length (joined with_count lines) ≤ length out

-- k is how many bytes
pub record LinesLaid (n : ℕ) (s : List ℕ) (e : ℕ) (before after : List ℕ) (k : ℕ) : Type 0 where
  pub is : (ls : List (List ℕ)) (behind : Bits) → row_dec (line e) n (drop 24 (bits_of s)) ≡ got ls behind → Laid (joined four (joined with_count ls)) before after k

-- ---- all numbers of a payload, in a view with so many lines

pub record NumbersRoom (lines : ℕ) (s : List ℕ) (e : ℕ) (out : List ℕ) : Type 0 where
  pub short : length s ≤ 65535
  pub numbers : ℕ
  pub right : RightPayload lines s e numbers
  pub room : 4 * numbers ≤ length out

-- n is how many numbers
pub record NumbersLaid (lines : ℕ) (s : List ℕ) (before after : List ℕ) (n : ℕ) : Type 0 where
  pub is : (p : Pores) → pores_in lines s ≡ some p → Laid (joined four (numbers_of p)) before after (4 * n)
