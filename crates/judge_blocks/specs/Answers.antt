-- What the answers of the blocks' readers mean, and what each function reads: the formats' own readers, of which a judge keeps the
-- bytes in the sheet.
use Rattle.std.specs.Prelude.{◌≡◌, ℕ, ◌+◌, ◌-◌, ◌*◌, ◌≤◌, ◌<◌, Bool, List, Result, Ok, Err, length}
use Rattle.bits.specs.Bits.{Bits}
use Rattle.bits.specs.Codec.{Read, field_dec}
use Rattle.bits.specs.SizedLaws.{prefixed}
use Rattle.bits.specs.Lists.{total}
use Rattle.bits.specs.Reads.{Found, found, fault, Reads, keeping}
use Rattle.outcome.specs.Refusals.{past}
use Rattle.outcome.specs.Why.{number, fault_of}
use Rattle.outcome.specs.declared.refusal.Fault.{Fault}
use Rattle.format.specs.Index.{index_block}
use Rattle.format.specs.Segments.{segments}
use Rattle.format.specs.declared.Part.{Part}
use Rattle.format.specs.SheetSize.{index_size, segment_size}
use Rattle.judge_blocks.specs.declared.Reached.{Reached}

-- ---- answers

-- the judge of the whole block s, whose refusal is e
abbrev pub judged : ℕ → List ℕ → Result ℕ ℕ → Found ℕ
judged e s (Ok n) = found n (8 * length s)
judged e s (Err p) = fault e p

abbrev pub reached : Result Reached Fault → Found ℕ
reached (Ok r) = found r.size (8 * r.next)
reached (Err f) = fault_of f

-- ---- a block behind its length, a field of 16 bits at byte a

-- it is whole: from byte b up to byte e
pub record WholeAt (s : List ℕ) (a b e : ℕ) : Type 0 where
  pub start : b ≡ a + 2
  pub counted : Reads (field_dec past 16) s (8 * a) (found (e - b) (8 * b))
  pub ordered : b ≤ e
  pub within : e ≤ length s

-- it is cut: the length passes the end, or the block does, and p is the place of that one
pub data Cut (s : List ℕ) (a p : ℕ) : Type 0 where
  length_past : length s - a < 2 → p ≡ 8 * a → Cut s a p
  block_past : (n : ℕ) → Reads (field_dec past 16) s (8 * a) (found n (8 * (a + 2))) → length s - (a + 2) < n → p ≡ 8 * (a + 2) → Cut s a p

-- the one or the other, as `block_at` says
abbrev pub Behind : List ℕ → ℕ → Result Part Fault → Type 0
Behind s a (Ok k) = WholeAt s a k.from k.to
Behind s a (Err f) = (number f.why ≡ past) × Cut s a f.place

-- ---- what is read

unfoldable pub index_dec : ℕ → Bits → Read Bool ℕ
index_dec n s = keeping index_size ((index_block n).dec s)

unfoldable pub index_at_dec : ℕ → Bits → Read Bool ℕ
index_at_dec n s = keeping index_size ((prefixed (index_block n) past).dec s)

unfoldable pub segments_dec : Bits → Read Bool ℕ
segments_dec s = keeping (total segment_size) (segments.dec s)

unfoldable pub segments_at_dec : Bits → Read Bool ℕ
segments_at_dec s = keeping (total segment_size) ((prefixed segments past).dec s)
