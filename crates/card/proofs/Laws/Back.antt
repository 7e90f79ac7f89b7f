-- The calls on a card's object, one behind the other: where the first answers 0, the second is lent what it wrote.
use mathlib.Core.Path.{◌≡◌, sym, ap, ◌∙◌}
use Prim.Native.Nat.{ℕ, ◌≤◌}
use native.Mathlib.Omega.{arith}
use mathlib.Core.List.{List}
use lib.ListN.{length, take}
use Rattle.bits.specs.Lists.{All}
use Rattle.bits.specs.Bytes.{Byte}
use Rattle.outcome.specs.Outcome.{given, Answers, Gave}
use Rattle.outcome.specs.declared.Answer.{Answer}
use Rattle.outcome.proofs.Laws.{given_is, answer_there, answer_accepted}
use Rattle.format.specs.Limits.{most_bytes}
use Rattle.format.specs.Record.{write}
use Rattle.format.specs.Named.{named}
use Rattle.format.specs.declared.ViewName.{ViewName}
use Rattle.format.proofs.Laws.Size.{write_long}
use Rattle.card.specs.Card.{record_of_card, card_read, card_write}
use Rattle.card.specs.Accepted.{ReadsAt, its_record, Alone, ViewAtSize, its_card}
use Rattle.card.proofs.Laws.Calls.{reads_given, write_back, write_given, written_reads}
use Rattle.card.proofs.Laws.Numbers.{read_never, write_never}

module _ {before after before₂ after₂ : List ℕ} {a b : Answer} where
  pub read_then_write : (size_number : ℕ) (object : List ℕ) (x : ReadsAt size_number object) → All Byte object → Alone x
      → Answers (card_read size_number object) before after a → a.number ≡ 0
      → Answers (card_write size_number (named 0 0) (take a.length after)) before₂ after₂ b → length object ≤ length before₂ → Gave object after₂ b
  read_then_write size_number object x bytes alone h z k l =
      answer_accepted h (read_never size_number object) z λ xs g t.
      let e : take a.length after ≡ write (its_record x) = t ∙ given_is (sym g ∙ reads_given x) in
      answer_there k object (ap (card_write size_number (named 0 0)) e ∙ write_back x bytes alone) l

  pub write_then_read : (size_number : ℕ) (view : ViewName) (bytes : List ℕ) → Answers (card_write size_number view bytes) before after a → a.number ≡ 0
      → Answers (card_read size_number (take a.length after)) before₂ after₂ b → 32768 ≤ length before₂
      → (x : ViewAtSize size_number view bytes) × Gave (write (record_of_card x.scale (its_card x))) after₂ b
  unfolding most_bytes
  write_then_read size_number view bytes h z k l =
      answer_accepted h (write_never size_number view bytes) z λ xs g t.
      let (x, same, e) = write_given size_number view bytes xs g in
      let (y, r) = written_reads x same in
      let o : card_read size_number (take a.length after) ≡ given (write (record_of_card x.scale (its_card x))) = ap (card_read size_number) (t ∙ e) ∙ reads_given y ∙ ap (λ q. given (write q)) r in
      (x, answer_there k (write (record_of_card x.scale (its_card x))) o (omega (arith, y.small, write_long (its_record y), ap (λ q. length (write q)) r)))
