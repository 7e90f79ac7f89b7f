-- How long a payload is, from the distances alone: so that a size can be held against its limit before a distance is written out.
use Rattle.std.specs.Prelude.{ℕ, suc, ◌+◌, ◌*◌, ◌/◌, List}
use Rattle.bits.specs.Lists.{total}
use Rattle.pores_elements.specs.Element.{elements_of}
use Rattle.pores_parts.specs.Parts.{Pores}

-- elements of a distance, of a line, of all lines
abbrev pub distance_elements : ℕ → ℕ → ℕ
distance_elements e d = suc (elements_of e d).0

abbrev pub line_elements : ℕ → List ℕ → ℕ
line_elements e ds = suc (total (distance_elements e) ds)

abbrev pub element_count : Pores → ℕ
element_count p = total (line_elements p.e) p.lines

-- in bytes
abbrev pub payload_length : Pores → ℕ
payload_length p = 3 + (element_count p * p.e + 7) / 8
