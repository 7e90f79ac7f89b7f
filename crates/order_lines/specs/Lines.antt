-- The lines that a removal leaves, and what the code that sizes and puts them asks and answers.
use Rattle.std.specs.Prelude.{◌≡◌, ℕ, ◌*◌, ◌≤◌, List, ◌++◌, length, drop}
use Rattle.bits.specs.Lists.{All}
use Rattle.bits.specs.Bits.{Bits}
use Rattle.bits.specs.Bytes.{bits_of, in_bytes}
use Rattle.bits.specs.CodecLaws.{enc_each}
use Rattle.put_bytes.specs.Laid.{Laid}
use Rattle.format.specs.Line.{Line, FitsLine, line, skeleton}
use Rattle.format.specs.Record.{Narrow}
use Rattle.format.specs.declared.Widths.{Widths}
use Rattle.orders.specs.Listed.{removal_lines}
use Rattle.order_removal.specs.Rank.{Rising}
use Rattle.order_removal.specs.Kept.{kept}

-- of the values of the lines from l on, those whose line the removal of rs leaves
abbrev pub kept_from : {A : Type 0} → List ℕ → ℕ → List A → List A
kept_from rs l xs = kept (λ i x. x) rs l xs

-- the block of such lines
abbrev pub kept_block : Widths → List ℕ → List Line → List ℕ
kept_block w removal ls = in_bytes ((skeleton w).enc (kept_from (removal_lines removal) 0 ls))

-- values stand from place p of the block s on, one behind the other, each as enc writes it; the bits u follow them
pub record EachAt {A : Type 0} (enc : A → Bits) (Fits : A → Type 0) (s : List ℕ) (p : ℕ) (xs : List A) (u : Bits) : Type 0 where
  pub bits : drop p (bits_of s) ≡ enc_each enc xs ++ u
  pub fits : All Fits xs
  pub within : p ≤ 8 * length s

abbrev pub LinesAt : Widths → List ℕ → ℕ → List Line → Bits → Type 0
LinesAt w s p ls u = EachAt (line w).enc (FitsLine w) s p ls u

pub record LinesToKeep (w : Widths) (s : List ℕ) (count : ℕ) (removal : List ℕ) : Type 0 where
  pub narrow : Narrow w
  pub short : length s ≤ 65535
  pub rising : Rising removal
  pub few : count ≤ 1024
  pub value : List Line
  pub behind : Bits
  pub at : LinesAt w s 0 value behind
  pub counts : length value ≡ count

pub record LinesSized (w : Widths) (s : List ℕ) (count : ℕ) (removal : List ℕ) (r : ℕ) : Type 0 where
  pub is : (ls : List Line) (u : Bits) → LinesAt w s 0 ls u → length ls ≡ count → r ≡ length (kept_block w removal ls)

pub record LinesPutThere (w : Widths) (s : List ℕ) (count : ℕ) (removal out : List ℕ) : Type 0 where
  pub there : LinesToKeep w s count removal
  pub room : length (kept_block w removal there.value) ≤ length out

pub record LinesPut (w : Widths) (s : List ℕ) (count : ℕ) (removal before after : List ℕ) (r : ℕ) : Type 0 where
  pub is : (ls : List Line) (u : Bits) → LinesAt w s 0 ls u → length ls ≡ count → Laid (kept_block w removal ls) before after r
