-- The calls on runs by their contracts, one behind the other: where the first answers 0, and the second is lent what it wrote and room
-- enough, the second gives back what the first was lent.
use mathlib.Core.Path.{◌≡◌, sym, ap, ◌∙◌}
use Prim.Native.Nat.{ℕ, ◌*◌, ◌/◌, ◌%◌, ◌≤◌}
use native.Mathlib.Omega.{arith}
use mathlib.Core.List.{List}
use lib.ListN.{length, take}
use Rattle.bits.specs.Lists.{All}
use Rattle.bits.specs.Bytes.{Byte}
use Rattle.put_bytes.specs.HighFirst.{numbers_in}
use Rattle.put_bytes.proofs.Laws.{twos_length}
use Rattle.put_bytes.proofs.Numbers.{length_numbers, written_numbers}
use Rattle.outcome.specs.Outcome.{given, Answers, AnswersInBytes, Gave}
use Rattle.outcome.specs.declared.Answer.{Answer}
use Rattle.outcome.proofs.Laws.{room_zero, answer_laid, answer_there, answer_accepted}
use Rattle.card_runs.specs.Runs.{low_bytes, from_low_bytes}
use Rattle.card_runs.proofs.Numbers.{low_never, back_never}
use Rattle.card_runs.proofs.Laws.Runs.{low_given, lent_right, back_after_low_bytes, low_after_back_bytes}

module _ {before after before₂ after₂ : List ℕ} {a b : Answer} where
  -- the length counts numbers, of two bytes each
  pub low_back : (lent : List ℕ) → All Byte lent → Answers (low_bytes lent) before after a → a.number ≡ 0
      → AnswersInBytes (from_low_bytes (take a.length after)) before₂ after₂ b → length lent ≤ length before₂
      → (b.number ≡ 0) × (2 * b.length ≡ length lent) × (take (2 * b.length) after₂ ≡ lent)
  low_back lent y h z k l =
      answer_accepted h (low_never lent) z λ bytes q e.
      let w : length lent % 2 ≡ 0 = (lent_right lent (low_given lent q).0).0 in
      let o : from_low_bytes (take a.length after) ≡ given (numbers_in lent) = ap from_low_bytes e ∙ back_after_low_bytes lent bytes y q in
      let r : length (numbers_in lent) ≤ length before₂ / 2 = omega (arith, length_numbers lent) in
      let (n, m, t) = answer_laid k (numbers_in lent) o r (2 * b.length) (λ j. twos_length (numbers_in lent) ∙ ap (λ (i : ℕ). 2 * i) (sym j)) in
      (n, omega (arith, m, length_numbers lent, w), t ∙ written_numbers lent w y)

  pub back_low : (bytes : List ℕ) → All Byte bytes → AnswersInBytes (from_low_bytes bytes) before after a → a.number ≡ 0
      → Answers (low_bytes (take (2 * a.length) after)) before₂ after₂ b → length bytes ≤ length before₂ → Gave bytes after₂ b
  back_low bytes y h z k l =
      room_zero (length before / 2) (back_never bytes) (sym h.number ∙ z) λ run q m.
      let (_, _, e) = answer_laid h run q m (2 * a.length) (λ j. twos_length run ∙ ap (λ (i : ℕ). 2 * i) (sym j)) in
      answer_there k bytes (ap low_bytes e ∙ low_after_back_bytes bytes run y q) l
