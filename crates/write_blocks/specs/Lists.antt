-- What the writers of the neighbour index ask and leave, as for lines: the fields 04 and 05 of a right sheet, and the index block.
use Rattle.std.specs.Prelude.{◌≡◌, ℕ, ◌+◌, ◌/◌, ◌≤◌, List, ◌++◌, length, drop}
use Rattle.std.proofs.Math.Option.{Option}
use Rattle.bits.specs.Lists.{Along}
use Rattle.bits.specs.Bytes.{in_bytes}
use Rattle.bits.specs.CodecLaws.{enc_along}
use Rattle.put_bytes.specs.Laid.{Laid}
use Rattle.put_bytes.specs.HighFirst.{two, joined}
use Rattle.format.specs.Index.{Index, FitsList, neighbours, up, index_block}
use Rattle.sheet_bytes.specs.Bytes.{index_bytes}
use Rattle.write_blocks.specs.Run.{Other, RunAt}
use Rattle.put_bits.specs.Put.{Puts, Room}
use Rattle.write_blocks.specs.declared.Done.{Done}

-- ---- line l's neighbours at width w, whose field has the value s

pub record ListToWrite (w l : ℕ) (s out : List ℕ) (at : ℕ) : Type 0 where
  pub narrow : w ≤ 16
  pub value : List ℕ
  pub fits : FitsList w l value
  pub held : s ≡ joined two value
  pub room : Room out at (length ((neighbours w l).enc value))

pub record ListWritten (w l : ℕ) (s old : List ℕ) (at : ℕ) (now : List ℕ) (r : ℕ) : Type 0 where
  pub is : (ns : List ℕ) → FitsList w l ns → s ≡ joined two ns → Puts ((neighbours w l).enc ns) old at now r

-- ---- the lists of an index at width w, one for each of `lines` lines: fields 05 from byte a of the sheet s on

pub record ListsToWrite (w lines : ℕ) (s : List ℕ) (a : ℕ) (out : List ℕ) (at : ℕ) : Type 0 where
  pub narrow : w ≤ 16
  pub value : List (List ℕ)
  pub rest : List ℕ
  pub run : RunAt 5 (joined two) s a value rest
  pub count : length value ≡ lines
  pub fits : Along up (FitsList w) 0 value
  pub room : Room out at (length (enc_along (neighbours w) up 0 value))

pub record ListsWritten (w lines : ℕ) (s : List ℕ) (a : ℕ) (old : List ℕ) (at : ℕ) (now : List ℕ) (r : Done) : Type 0 where
  pub is : (nss : List (List ℕ)) (rest : List ℕ) → RunAt 5 (joined two) s a nss rest → length nss ≡ lines → Along up (FitsList w) 0 nss
      → (p : ℕ) × Puts (enc_along (neighbours w) up 0 nss) old at now p × (r.bytes ≡ (p + 7) / 8) × (drop r.next s ≡ rest)

-- ---- the index of a view with `lines` lines: nothing, or a field 04 and its lists

pub record IndexAt (lines : ℕ) (s : List ℕ) (a : ℕ) (o : Option Index) (rest : List ℕ) : Type 0 where
  pub is : drop a s ≡ index_bytes o ++ rest
  pub behind : Other 4 rest × Other 5 rest
  pub fits : (index_block lines).Fits o

pub record IndexToWrite (lines : ℕ) (s : List ℕ) (a : ℕ) (out : List ℕ) : Type 0 where
  pub few : lines ≤ 1024
  pub value : Option Index
  pub rest : List ℕ
  pub at : IndexAt lines s a value rest
  pub room : Room out 0 (length ((index_block lines).enc value))

pub record IndexWritten (lines : ℕ) (s : List ℕ) (a : ℕ) (before after : List ℕ) (r : Done) : Type 0 where
  pub is : (o : Option Index) (rest : List ℕ) → IndexAt lines s a o rest
      → Laid (in_bytes ((index_block lines).enc o)) before after r.bytes × (drop r.next s ≡ rest)
