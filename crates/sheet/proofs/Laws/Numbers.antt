-- The numbers of the two calls of the sheet, by their contracts: reading gives 1 to 12 and 20, writing 19 to 22; and 0 exactly where
-- the bytes are an allowed record's, or the sheet is an allowed record's, and there is room.
use mathlib.Core.Path.{◌≡◌, refl, sym, ap, ◌∙◌}
use mathlib.Core.Logic.{◌≢◌, inl, inr}
use Prim.Native.Nat.{ℕ, ◌≤◌}
use native.Mathlib.Omega.{arith}
use mathlib.Core.Bool.{Bool, ◌||◌}
use mathlib.Core.List.{List, []}
use lib.ListN.{length, drop}
use lib.Dec.{T, eqb, eqb→eq}
use mir.Facts.{or_yes}
use Rattle.bits.specs.Lists.{All}
use Rattle.bits.specs.Bytes.{Byte}
use Rattle.bits.specs.Codec.{Read}
use Rattle.bits.specs.Codec as C
use Rattle.outcome.specs.Refusals.{too_long, bad_sheet, bad_value}
use Rattle.outcome.specs.Numbers.{among, Gives, read_numbers, write_numbers}
use Rattle.outcome.specs.Outcome.{refused, given, Answers}
use Rattle.outcome.specs.declared.Answer.{Answer}
use Rattle.outcome.proofs.Laws.{room_zero, zero_room}
use Rattle.outcome.proofs.Numbers.{RefusedBy, among_first, answer_number, never_zero}
use Rattle.format.specs.Record.{Record, write}
use Rattle.format.proofs.Laws.Size.{write_long}
use Rattle.format.proofs.Laws.Record.{read_there, read_back}
use Rattle.format.proofs.Laws.Call.{given_record}
use Rattle.format.proofs.Laws.Numbers.{record_numbers}
use Rattle.sheet.specs.Sheet.{sheet_of, read_sheet, writes, reading, writing}
use Rattle.sheet.specs.Accepted.{AcceptedReading, AcceptedWriting}
use Rattle.sheet.proofs.Laws.Refuses.{read_sheet_refuses}
use Rattle.sheet.proofs.Laws.Sheet.{sheet_read, read_sheet_lem}
use Rattle.sheet.proofs.Laws.Calls.{reading_is, writing_is, written}

-- ---- which numbers

reading_by : (bytes : List ℕ) → RefusedBy read_numbers (reading bytes)
unfolding reading
reading_by = record_numbers read_numbers (among_first 1 12 (drop 1 read_numbers)) (λ r. given (sheet_of r)) (λ r. tt)

sheet_number : (e : ℕ) → T (eqb e bad_sheet || eqb e bad_value || eqb e too_long) → T (among write_numbers e)
sheet_number e t =
    elim (or_yes (eqb e bad_sheet || eqb e bad_value) (eqb e too_long) t) [
      | inl v ↦ elim (or_yes (eqb e bad_sheet) (eqb e bad_value) v) [ inl u ↦ one bad_sheet (omega arith) (omega arith) u | inr u ↦ one bad_value (omega arith) (omega arith) u ]
      | inr u ↦ one too_long (omega arith) (omega arith) u
    ]
  where
    one : (n : ℕ) → 19 ≤ n → n ≤ 22 → T (eqb e n) → T (among write_numbers e)
    one n l h u = let q : e ≡ n = eqb→eq e n u in among_first 19 22 [] e (omega arith) (omega arith)

writing_by : (sheet : List ℕ) → RefusedBy write_numbers (writing sheet)
unfolding writing
writing_by sheet = go (read_sheet sheet) refl
  where
    go : (o : Read Bool Record) → read_sheet sheet ≡ o → RefusedBy write_numbers (writes o)
    go (C.got r rest) k = tt
    go (C.refused n l) k = sheet_number n (read_sheet_refuses sheet n l k)

pub reading_refuses : (bytes : List ℕ) (e p : ℕ) → reading bytes ≡ refused e p → e ≢ 0
reading_refuses bytes = never_zero read_numbers tt (reading_by bytes)

pub writing_refuses : (sheet : List ℕ) (e p : ℕ) → writing sheet ≡ refused e p → e ≢ 0
writing_refuses sheet = never_zero write_numbers tt (writing_by sheet)

module _ {before after : List ℕ} {a : Answer} where
  pub reading_numbers : (bytes : List ℕ) → Answers (reading bytes) before after a → Gives read_numbers a.number
  reading_numbers bytes = answer_number read_numbers tt (reading_by bytes)

  pub writing_numbers : (sheet : List ℕ) → Answers (writing sheet) before after a → Gives write_numbers a.number
  writing_numbers sheet = answer_number write_numbers tt (writing_by sheet)

  -- ---- when the number is 0

  pub reading_accepted : (bytes : List ℕ) → All Byte bytes → Answers (reading bytes) before after a → a.number ≡ 0
      → AcceptedReading bytes (length before)
  unfolding reading
  reading_accepted bytes y h z =
      room_zero (length before) (reading_refuses bytes) (sym h.number ∙ z) λ sheet q l.
      given_record (λ r. given (sheet_of r)) bytes sheet q λ r rest e g.
      let s : sheet_of r ≡ sheet = cc in
      let (k, w, n) = read_back bytes r rest y e in
      record { value = r; allowed = k; is = w; room = rw s l }

  pub accepted_reading : (bytes : List ℕ) → Answers (reading bytes) before after a → AcceptedReading bytes (length before) → a.number ≡ 0
  accepted_reading bytes h k =
      let r : Record = k.value in
      h.number ∙ zero_room (length before) (ap reading k.is ∙ reading_is (write r) r [] (read_there r k.allowed)) k.room

  pub writing_accepted : (sheet : List ℕ) → All Byte sheet → Answers (writing sheet) before after a → a.number ≡ 0
      → AcceptedWriting sheet (length before)
  writing_accepted sheet y h z =
      room_zero (length before) (writing_refuses sheet) (sym h.number ∙ z) λ bytes q l.
      written sheet bytes q λ r rest e w.
      let (k, s, n) = read_sheet_lem sheet r rest y e in
      record { value = r; allowed = k; is = s; room = omega (arith, l, ap length w, write_long r) }

  pub accepted_writing : (sheet : List ℕ) → Answers (writing sheet) before after a → AcceptedWriting sheet (length before) → a.number ≡ 0
  accepted_writing sheet h k =
      let r : Record = k.value in
      h.number ∙ zero_room (length before) (ap writing k.is ∙ writing_is (sheet_of r) r [] (sheet_read r k.allowed)) (omega (arith, k.room, write_long r))
