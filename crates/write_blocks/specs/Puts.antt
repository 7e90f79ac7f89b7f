-- What the writers of lines ask and leave: what the lines of a sheet hold is put, in bits.
use Rattle.std.specs.Prelude.{◌≡◌, ℕ, ◌+◌, ◌*◌, ◌^◌, ◌≤◌, ◌<◌, List, ◌++◌, map, length, take, drop}
use Rattle.bits.specs.Lists.{All, total}
use Rattle.bits.specs.Bits.{filled}
use Rattle.bits.specs.Bytes.{in_bytes}
use Rattle.bits.specs.CodecLaws.{enc_all, field}
use Rattle.outcome.specs.Refusals.{bad_line}
use Rattle.put_bytes.specs.Laid.{Laid}
use Rattle.put_bits.specs.Put.{Puts, Room}
use Rattle.format.specs.Line.{Line, FitsEnd, FitsLine, end, end_bits, line}
use Rattle.format.specs.declared.End.{End}
use Rattle.format.specs.declared.Widths.{Widths}
use Rattle.sheet_codes.specs.Code.{sign_extended}
use Rattle.format.specs.Record.{Narrow}
use Rattle.sheet_bytes.specs.Bytes.{end_bytes}
use Rattle.write_blocks.specs.Run.{RunAt}
use Rattle.write_blocks.specs.declared.line.Lines.{Lines}

-- ---- an end, at byte a of the value s

pub record EndThere (w : Widths) (s : List ℕ) (a : ℕ) (out : List ℕ) (at : ℕ) : Type 0 where
  pub narrow : Narrow w
  pub there : a + 6 ≤ length s
  pub value : End
  pub fits : FitsEnd w value
  pub held : take 6 (drop a s) ≡ end_bytes value
  pub room : Room out at (end_bits w)

pub record EndPut (w : Widths) (s : List ℕ) (a : ℕ) (old : List ℕ) (at : ℕ) (now : List ℕ) (r : ℕ) : Type 0 where
  pub is : (e : End) → FitsEnd w e → take 6 (drop a s) ≡ end_bytes e → Puts ((end w).enc e) old at now r

-- ---- codes of k bits, a byte each

pub record CodesToWrite (k : ℕ) (s out : List ℕ) (at : ℕ) : Type 0 where
  pub low : 1 ≤ k
  pub high : k ≤ 8
  pub value : List ℕ
  pub fits : All (λ n. n < 2 ^ k) value
  pub held : s ≡ map (sign_extended k) value
  pub room : Room out at (length value * k)

pub record CodesPut (k : ℕ) (s old : List ℕ) (at : ℕ) (now : List ℕ) (r : ℕ) : Type 0 where
  pub is : (cs : List ℕ) → All (λ n. n < 2 ^ k) cs → s ≡ map (sign_extended k) cs → Puts (enc_all (field bad_line k) cs) old at now r

-- ---- a line, whose field has the value s

abbrev pub line_held : ℕ → Line → List ℕ
line_held k l = end_bytes l.start ++ (end_bytes l.finish ++ map (sign_extended k) l.codes)

pub record LineToWrite (w : Widths) (s out : List ℕ) (at : ℕ) : Type 0 where
  pub narrow : Narrow w
  pub value : Line
  pub fits : FitsLine w value
  pub held : s ≡ line_held w.k value
  pub room : Room out at (length ((line w).enc value))

pub record LinePut (w : Widths) (s old : List ℕ) (at : ℕ) (now : List ℕ) (r : ℕ) : Type 0 where
  pub is : (l : Line) → FitsLine w l → s ≡ line_held w.k l → Puts ((line w).enc l) old at now r

-- ---- the lines: fields 03 from byte a of the sheet s on

pub record LineFieldsAt (w : Widths) (s : List ℕ) (a : ℕ) (ls : List Line) (rest : List ℕ) : Type 0 where
  pub run : RunAt 3 (line_held w.k) s a ls rest
  pub fits : All (FitsLine w) ls

pub record LinesToWrite (w : Widths) (s : List ℕ) (a : ℕ) (out : List ℕ) : Type 0 where
  pub narrow : Narrow w
  pub value : List Line
  pub rest : List ℕ
  pub at : LineFieldsAt w s a value rest
  pub room : Room out 0 (total (λ l. length ((line w).enc l)) value)

pub record LinesWritten (w : Widths) (s : List ℕ) (a : ℕ) (before after : List ℕ) (r : Lines) : Type 0 where
  pub is : (ls : List Line) (rest : List ℕ) → LineFieldsAt w s a ls rest
      → Laid (in_bytes (filled (enc_all (line w) ls))) before after r.bytes × (r.count ≡ length ls) × (drop r.next s ≡ rest)
