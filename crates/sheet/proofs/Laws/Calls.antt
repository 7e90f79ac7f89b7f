-- Demand 2, of the two calls' outcomes: writing the sheet that reading gave gives the bytes back, and reading the record that
-- writing gave gives the sheet back.
use mathlib.Core.Path.{◌≡◌, refl, sym, ap, ◌∙◌}
use Prim.Native.Nat.{ℕ}
use native.Mathlib.Omega.{arith}
use mathlib.Core.Bool.{Bool}
use mathlib.Core.List.{List, []}
use Rattle.bits.specs.Lists.{All}
use Rattle.bits.specs.Bits.{Bits}
use Rattle.bits.specs.Bytes.{Byte}
use Rattle.bits.specs.Codec.{Read, got, refused}
use Rattle.outcome.specs.Outcome.{given}
use Rattle.format.specs.Record.{Record, read, write}
use Rattle.format.proofs.Laws.Record.{read_there, read_back}
use Rattle.format.proofs.Laws.Call.{on_record_lem, given_record}
use Rattle.sheet.specs.Sheet.{sheet_of, read_sheet, writes, reading, writing}
use Rattle.sheet.proofs.Laws.Sheet.{sheet_read, read_sheet_lem}

pub reading_is : (bytes : List ℕ) (r : Record) (rest : Bits) → read bytes ≡ got r rest → reading bytes ≡ given (sheet_of r)
unfolding reading
reading_is bytes r rest p = on_record_lem (λ r. given (sheet_of r)) bytes r rest p

pub writing_is : (sheet : List ℕ) (r : Record) (rest : Bits) → read_sheet sheet ≡ got r rest → writing sheet ≡ given (write r)
unfolding writing
writing_is sheet r rest p = ap writes p

-- a record that is written came of a sheet
pub written : {P : Type 0} (sheet bytes : List ℕ) → writing sheet ≡ given bytes → ((r : Record) (rest : Bits) → read_sheet sheet ≡ got r rest → write r ≡ bytes → P) → P
unfolding writing
written {P} sheet bytes p k = go (read_sheet sheet) refl p
  where
    go : (o : Read Bool Record) → read_sheet sheet ≡ o → writes o ≡ given bytes → P
    go (got r rest) e h = let z : write r ≡ bytes = cc in k r rest e z
    go (refused n l) e h = let z : ◌≡◌ {A = ℕ} 0 1 = cc in absurd (omega arith)

pub write_after_read : (bytes sheet : List ℕ) → All Byte bytes → reading bytes ≡ given sheet → writing sheet ≡ given bytes
unfolding reading
write_after_read bytes sheet h p =
    given_record (λ r. given (sheet_of r)) bytes sheet p λ r rest e g.
    let z : sheet_of r ≡ sheet = cc in
    let (a, w, n) = read_back bytes r rest h e in
    ap writing (sym z) ∙ writing_is (sheet_of r) r [] (sheet_read r a) ∙ ap given (sym w)

pub read_after_write : (sheet bytes : List ℕ) → All Byte sheet → writing sheet ≡ given bytes → reading bytes ≡ given sheet
read_after_write sheet bytes h p =
    written sheet bytes p λ r rest e z.
    let (a, w, n) = read_sheet_lem sheet r rest h e in
    ap reading (sym z) ∙ reading_is (write r) r [] (read_there r a) ∙ ap given (sym w)
