-- The calls on payloads of any format by their contracts: what the second call answers, and leaves, when it is lent what the first one
-- wrote. The elements that reading gives stand in the output as they are lent for rewriting.
use mathlib.Core.Path.{◌≡◌, sym, ap, ◌∙◌}
use Prim.Native.Nat.{ℕ, ◌≤◌}
use mathlib.Core.List.{List}
use lib.ListN.{length, take}
use Rattle.bits.specs.Lists.{All}
use Rattle.bits.specs.Bytes.{Byte}
use Rattle.outcome.specs.Outcome.{AnswersAs, Answers, GaveAs, Gave}
use Rattle.outcome.specs.declared.Answer.{Answer}
use Rattle.outcome.proofs.Laws.{room_zero, answer_laid, answer_there, answer_accepted}
use Rattle.format.specs.declared.ViewName.{ViewName}
use Rattle.rewrite.specs.Format.{PayloadFormat}
use Rattle.rewrite.specs.Called.{read_payload, set_payload}
use Rattle.rewrite.proofs.Laws.Payload.{set_after_read, LentRight, read_after_set}
use Rattle.rewrite.proofs.Laws.PayloadNumbers.{reading_told, setting_told}

module _ {A : Type 0} (F : PayloadFormat A) (high : 24 ≤ F.bad) (view : ViewName) (place : ℕ) {lent : ℕ} {before after before₂ after₂ : List ℕ} {a b : Answer}
    (bytes : List ℕ) where
  -- n is how many bytes were written
  pub reading_back : All Byte bytes → AnswersAs F.in_bytes lent (read_payload F view place bytes) before after a → a.number ≡ 0
      → (n : ℕ) → ((xs : List ℕ) → a.length ≡ length xs → length (F.in_bytes xs) ≡ n)
      → Answers (set_payload F view place (take n after) bytes) before₂ after₂ b → length bytes ≤ length before₂ → Gave bytes after₂ b
  reading_back y h z n w k l =
      room_zero lent (reading_told F high view place bytes) (sym h.number ∙ z) λ xs q m.
      let (_, _, e) = answer_laid h xs q m n (w xs) in
      answer_there k bytes (ap (λ (ys : List ℕ). set_payload F view place ys bytes) e ∙ set_after_read F view place xs bytes y q) l

  -- what was lent is that of some elements; these are given, in the n bytes that they take
  pub setting_back : (values : List ℕ) → LentRight F values → Answers (set_payload F view place values bytes) before after a → a.number ≡ 0
      → AnswersAs F.in_bytes lent (read_payload F view place (take a.length after)) before₂ after₂ b
      → ((xs : List ℕ) → values ≡ F.in_bytes xs → length xs ≤ lent)
      → (n : ℕ) → ((xs : List ℕ) → b.length ≡ length xs → length (F.in_bytes xs) ≡ n)
      → (xs : List ℕ) × (values ≡ F.in_bytes xs) × GaveAs F.in_bytes n xs after₂ b
  setting_back values back h z k l n w =
      answer_accepted h (setting_told F high view place values bytes) z λ new q e.
      let (xs, m, r) = read_after_set F view place values bytes new back q in
      (xs, m, answer_laid k xs (ap (read_payload F view place) e ∙ r) (l xs m) n (w xs))
