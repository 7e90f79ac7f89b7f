-- What the code that goes over a line of pores asks and answers.
use Rattle.std.specs.Prelude.{◌≡◌, ℕ, ◌+◌, ◌*◌, ◌≤◌, List, length, drop, Option, Some, None}
use Rattle.std.proofs.Math.Option.{none}
use Rattle.bits.specs.Bytes.{bits_of}
use Rattle.bits.specs.Codec.{got, value_of}
use Rattle.pores_parts.specs.Lines.{line}
use Rattle.pores_lines.specs.declared.PoreLine.{PoreLine}

-- s: a payload; e: bits of an element, as a payload may have
pub record ElementsThere (s : List ℕ) (at e : ℕ) : Type 0 where
  pub short : length s ≤ 65535
  pub low : 2 ≤ e
  pub high : e ≤ 8
  pub within : at ≤ 8 * length s

-- a line with so many distances stands there, up to place `next`
pub record LineStands (s : List ℕ) (at e count next : ℕ) : Type 0 where
  pub distances : List ℕ
  pub reads : (line e).dec (drop at (bits_of s)) ≡ got distances (drop next (bits_of s))
  pub counts : count ≡ length distances
  pub after : at + 2 * (count + 1) ≤ next
  pub within : next ≤ 8 * length s

abbrev pub LineFound : List ℕ → (at e : ℕ) → Option PoreLine → Type 0
LineFound s at e (Some l) = LineStands s at e l.count l.next
LineFound s at e None = value_of ((line e).dec (drop at (bits_of s))) ≡ none
