-- What the parts of a line's 03 field ask and leave: an end and its width, and the field when its ends are read and its codes are
-- not.
use Rattle.std.specs.Prelude.{ℕ, ◌+◌, ◌*◌, ◌≤◌, ◌<◌, List, length}
use Rattle.bits.specs.Codec.{times_dec}
use Rattle.bits.specs.CodecLaws.{field}
use Rattle.bits.specs.Reads.{found, Reads}
use Rattle.outcome.specs.Refusals.{bad_line}
use Rattle.put_bytes.specs.Laid.{Laid}
use Rattle.format.specs.Line.{EndFits}
use Rattle.format.specs.declared.End.{End}
use Rattle.sheet_bytes.specs.Bytes.{line_bytes}
use Rattle.read_blocks.specs.declared.line.LineParts.{LineParts}

-- an end whose numbers fit the bytes that a sheet has for them
abbrev pub SmallEnd : End → Type 0
SmallEnd = EndFits (λ n. n < 256) (λ n. n < 256) (λ n. n < 65536)

-- ---- the field of a line of the block s, with codes of k bits; n bytes are lent

pub record PartsThere (k : ℕ) (s : List ℕ) (l : LineParts) (n : ℕ) : Type 0 where
  pub short : length s ≤ 65535
  pub low : 1 ≤ k
  pub high : k ≤ 8
  pub start : SmallEnd l.start
  pub finish : SmallEnd l.finish
  pub count : l.count < 256
  pub codes : l.codes.at + l.count * k ≤ 8 * length s
  pub room : 15 + l.count ≤ n

pub record PartsOut (k : ℕ) (s : List ℕ) (l : LineParts) (before after : List ℕ) (r : ℕ) : Type 0 where
  pub is : (cs : List ℕ) (q : ℕ) → Reads (times_dec (field bad_line k) l.count) s l.codes.at (found cs q)
      → Laid (line_bytes k (record { start = l.start; codes = cs; finish = l.finish })) before after r
