-- The calls of pores in the host's words: numbers cross to it as bytes, four each.
use mathlib.Core.Path.{◌≡◌, sym, ap, ◌∙◌}
use Prim.Native.Nat.{ℕ, ◌*◌, ◌≤◌}
use native.Mathlib.Omega.{arith}
use mathlib.Core.List.{List}
use lib.ListN.{length, take}
use Rattle.bits.specs.Lists.{All}
use Rattle.bits.specs.Bytes.{Byte}
use Rattle.put_bytes.specs.HighFirst.{four, joined}
use Rattle.outcome.specs.Outcome.{given, Answers, AnswersInFours, Gave}
use Rattle.outcome.specs.declared.Answer.{Answer}
use Rattle.format.specs.declared.ViewName.{ViewName}
use Rattle.rewrite.proofs.Laws.Payload as Payload
use Rattle.rewrite.proofs.Laws.Calls as Calls
use Rattle.pores.specs.NumbersLaws.{fours_long}
use Rattle.pores.specs.Calls.{pores_format, pores, set_pores}

pub read_after_set : (view : ViewName) (place : ℕ) (values bytes new : List ℕ) → All Byte values → set_pores view place values bytes ≡ given new
    → (numbers : List ℕ) × (values ≡ joined four numbers) × (pores view place new ≡ given numbers)
read_after_set view place values bytes new b h = Payload.read_after_set pores_format view place values bytes new (λ f a. pores_format.lent_back f values a b) h

module _ (view : ViewName) (place : ℕ) where
  pub pores_back : {before after before₂ after₂ : List ℕ} {a b : Answer} (bytes : List ℕ) → All Byte bytes
      → AnswersInFours (pores view place bytes) before after a → a.number ≡ 0
      → Answers (set_pores view place (take (4 * a.length) after) bytes) before₂ after₂ b → length bytes ≤ length before₂ → Gave bytes after₂ b
  pores_back {a = a} bytes y h z =
      Calls.reading_back pores_format (omega arith) view place bytes y h z (4 * a.length) (λ xs l. fours_long xs ∙ ap (λ (n : ℕ). 4 * n) (sym l))

  pub setting_back : (values bytes : List ℕ) {before after before₂ after₂ : List ℕ} {a b : Answer} → All Byte values
      → Answers (set_pores view place values bytes) before after a → a.number ≡ 0
      → AnswersInFours (pores view place (take a.length after)) before₂ after₂ b → length values ≤ length before₂
      → (b.number ≡ 0) × (4 * b.length ≡ length values) × (take (4 * b.length) after₂ ≡ values)
  setting_back values bytes {before₂ = before₂} {b = b} y h z k l =
      let (xs, e, (zero, count, is)) =
      Calls.setting_back pores_format (omega arith) view place bytes values (λ f a. pores_format.lent_back f values a y) h z k
      (λ xs e. omega (arith, l, ap length e, fours_long xs)) (4 * b.length) (λ xs m. fours_long xs ∙ ap (λ (n : ℕ). 4 * n) (sym m)) in
      (zero, omega (arith, count, ap length e, fours_long xs), is ∙ sym e)
