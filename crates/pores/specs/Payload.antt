-- The payload of a segment of pores (clause 7.5.5). "Resolution (2 bytes), element bits (2 to 8), then for each skeleton line one zero
-- element followed by distances. The last line stops before a zero element or with under e bits left; the rest is 0 to 7 zero bits. A
-- line's elements may not end in all ones." So the payload for no lines is its first three bytes.
use Rattle.std.specs.Prelude.{ℕ, List}
use Rattle.std.proofs.Math.Option.{Option}
use Rattle.bits.specs.Bytes.{bits_of, in_bytes}
use Rattle.bits.specs.Codec.{value_of}
use Rattle.bits.specs.Block.{Block}
use Rattle.bits.specs.SizedLaws.{ahead, recast}
use Rattle.pores_parts.specs.Parts.{Pores, FitsPores, make_pores, parts_of_pores}
use Rattle.pores_parts.specs.Lines.{front, lines}
use Rattle.pores_parts.proofs.PartsLaws.{front_whole, pores_match}

-- of a view of n lines
unfoldable pub pores_block : ℕ → Block Pores
pores_block n = recast (ahead front front_whole (λ t. lines t.1 n)) make_pores parts_of_pores (FitsPores n) (pores_match n)

-- ---- as bytes

-- what a payload says in a view of n lines, or nothing where it breaks the rules
abbrev pub pores_in : ℕ → List ℕ → Option Pores
pores_in n payload = value_of ((pores_block n).dec (bits_of payload))

-- the only payload of these pores
abbrev pub payload_of : Pores → List ℕ
payload_of p = in_bytes ((pores_block 0).enc p)
