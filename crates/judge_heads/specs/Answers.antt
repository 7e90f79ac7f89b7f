-- What the answers of the readers of headers mean, and what they read: the formats' own readers.
use Rattle.std.specs.Prelude.{◌≡◌, ℕ, ◌+◌, ◌*◌, Bool, List, Result, Ok, Err, length, get_or, leb}
use Rattle.bits.specs.Choice.{pick}
use Rattle.bits.specs.Bits.{Bits}
use Rattle.bits.specs.Codec.{Read}
use Rattle.bits.specs.Reads.{Found, found, fault}
use Rattle.bits.specs.declared.Cursor.{Cursor}
use Rattle.format.specs.View.{view_header, occurs}
use Rattle.format.specs.Record.{header}
use Rattle.format.specs.declared.Scale.{Scale}
use Rattle.format.specs.declared.Header.{Header}
use Rattle.format.specs.declared.ViewHeader.{ViewHeader}
use Rattle.outcome.specs.Why.{fault_of}
use Rattle.outcome.specs.declared.refusal.Fault.{Fault}

-- ---- answers

-- n is the refusal of a value
abbrev pub fields_at : ℕ → Result (ViewHeader × Cursor) ℕ → Found ViewHeader
fields_at n (Ok (x, p)) = found x p.at
fields_at n (Err p) = fault n p

abbrev pub head_at : ℕ → Result (ViewHeader × ℕ) Fault → Found (ViewHeader × ℕ)
head_at a (Ok (x, n)) = found (x, n) (8 * a + 80)
head_at a (Err f) = fault_of f

abbrev pub scale_at : ℕ → Result (Scale × Cursor) ℕ → Found Scale
scale_at n (Ok (x, p)) = found x p.at
scale_at n (Err p) = fault n p

abbrev pub header_at : Result (Header × ℕ) Fault → Found (Header × ℕ)
header_at (Ok (x, n)) = found (x, n) 192
header_at (Err f) = fault_of f

-- ---- what is read

-- how many earlier views have a position, where seen counts them
abbrev pub earlier_of : List ℕ → ℕ → ℕ
earlier_of seen p = pick (leb p 10) (get_or seen p 0) 0

-- eleven counts stand for the positions ps of those views
pub record Seen (seen ps : List ℕ) : Type 0 where
  pub eleven : length seen ≡ 11
  pub is : (p : ℕ) → earlier_of seen p ≡ occurs p ps

unfoldable pub head_dec : List ℕ → Bits → Read Bool (ViewHeader × ℕ)
head_dec seen s = (view_header (earlier_of seen)).dec s

unfoldable pub header_dec : ℕ → Bits → Read Bool (Header × ℕ)
header_dec n s = (header n).dec s
