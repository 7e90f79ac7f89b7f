-- What the nest over views answers: of the views it keeps their bytes in the sheet.
use Rattle.std.specs.Prelude.{ℕ, Bool, Result, Ok, Err}
use Rattle.bits.specs.Bits.{Bits}
use Rattle.bits.specs.Codec.{Read}
use Rattle.bits.specs.Lists.{total}
use Rattle.bits.specs.Reads.{keeping}
use Rattle.outcome.specs.declared.refusal.Fault.{Fault}
use Rattle.format.specs.Record.{views}
use Rattle.format.specs.SheetSize.{view_size}
use Rattle.format.specs.declared.Widths.{Widths}
use Rattle.judge_blocks.specs.declared.Reached.{Reached}

-- of the views, their bytes in the sheet are kept
unfoldable pub views_dec : Widths → ℕ → Bits → Read Bool ℕ
views_dec w n s = keeping (total view_size) ((views w n).dec s)

-- the bytes that the views take in the sheet
abbrev pub sheet_bytes : Result Reached Fault → ℕ
sheet_bytes (Ok r) = r.size
sheet_bytes (Err f) = 0
