-- Demand 2, of the calls by their contracts: what the second call answers, and leaves, when it is lent what the first one wrote.
use mathlib.Core.Path.{◌≡◌, ap, ◌∙◌}
use Prim.Native.Nat.{ℕ, ◌≤◌}
use mathlib.Core.List.{List}
use lib.ListN.{length, take}
use Rattle.bits.specs.Lists.{All}
use Rattle.bits.specs.Bytes.{Byte}
use Rattle.outcome.specs.Outcome.{Answers, Gave}
use Rattle.outcome.specs.declared.Answer.{Answer}
use Rattle.outcome.proofs.Laws.{answer_there, answer_accepted}
use Rattle.sheet.specs.Sheet.{reading, writing}
use Rattle.sheet.proofs.Laws.Calls.{write_after_read, read_after_write}
use Rattle.sheet.proofs.Laws.Numbers.{reading_refuses, writing_refuses}

-- ---- there and back

module _ {before after before₂ after₂ : List ℕ} {a b : Answer} where
  pub written_back : (bytes : List ℕ) → All Byte bytes → Answers (reading bytes) before after a → a.number ≡ 0
      → Answers (writing (take a.length after)) before₂ after₂ b → length bytes ≤ length before₂ → Gave bytes after₂ b
  written_back bytes y h z k l =
      answer_accepted h (reading_refuses bytes) z λ sheet q e.
      answer_there k bytes (ap writing e ∙ write_after_read bytes sheet y q) l

  pub read_back : (sheet : List ℕ) → All Byte sheet → Answers (writing sheet) before after a → a.number ≡ 0
      → Answers (reading (take a.length after)) before₂ after₂ b → length sheet ≤ length before₂ → Gave sheet after₂ b
  read_back sheet y h z k l =
      answer_accepted h (writing_refuses sheet) z λ bytes q e.
      answer_there k sheet (ap reading e ∙ read_after_write sheet bytes y q) l
