-- The answers of a check: their numbers and places, and when they are 0, 30 and 31.
use mathlib.Core.Path.{◌≡◌, refl, sym, ap, ◌∙◌}
use mathlib.Core.Logic.{◌≢◌}
use Prim.Native.Nat.{ℕ, ◌*◌, ◌≤◌}
use native.Mathlib.Omega.{arith}
use mathlib.Core.Option.{Option, none, some}
use mathlib.Core.List.{List, []}
use lib.ListN.{length, drop}
use lib.Dec.{T, leb, nleb→lt}
use Rattle.bits.specs.ChoiceLaws.{pick_case, pick_split}
use Rattle.bits.specs.Codec.{got}
use Rattle.outcome.specs.Refusals.{no_rule, below_rule}
use Rattle.outcome.specs.Numbers.{among, Gives, check_numbers}
use Rattle.outcome.specs.Placed.{Placed}
use Rattle.outcome.specs.Outcome.{Outcome, refused, given, told}
use Rattle.outcome.specs.declared.Answer.{Answer}
use Rattle.outcome.proofs.Laws.{not_given, given_is, own_known, told_zero, told_own}
use Rattle.outcome.proofs.Refusing.{Refused, refused_shown_at, refused_known}
use Rattle.outcome.proofs.Numbers.{RefusedBy, among_first, told_number, never_zero}
use Rattle.outcome.proofs.Placed.{no_place}
use Rattle.format.specs.Record.{Record, read}
use Rattle.format.specs.Call.{on_record}
use Rattle.format.proofs.Laws.Record.{read_is}
use Rattle.format.proofs.Laws.Call.{own_record}
use Rattle.format.proofs.Laws.Numbers.{record_numbers, record_placed}
use Rattle.rule.specs.Rules.{rules, least_of}
use Rattle.rule.specs.Check.{direction_bits, passes, check, check_answer}
use Rattle.rule.specs.Accepted.{AcceptedCheck, BelowRule, NoRule}
use Rattle.rule.proofs.Laws.Table.{none_without, without_none, rising}
use Rattle.rule.proofs.Laws.Check.{check_none, check_in, bits_least, accepted_given, below_given, given_accepted, accepted_less}

-- of a record's own refusals, and 31
passes_refused : (P : ℕ → ℕ → Type 0) → P below_rule 0 → (least : ℕ) (r : Record) → Refused P (passes least r)
passes_refused P z least r = pick_case (Refused P) (leb least (direction_bits r)) _ _ (λ t. tt) (λ t. z)

module _ (rule : ℕ) (bytes : List ℕ) where
  check_by : RefusedBy check_numbers (check rule bytes)
  unfolding check
  check_by =
      refused_known (λ e p. T (among check_numbers e)) no_rule (λ least. on_record (passes least) bytes) tt
      (λ least. record_numbers check_numbers (among_first 1 12 (drop 1 check_numbers)) (passes least) (passes_refused (λ e p. T (among check_numbers e)) tt least) bytes)
      (least_of rule)

  check_placed : Refused (Placed (8 * length bytes)) (check rule bytes)
  unfolding check
  check_placed =
      refused_known (Placed (8 * length bytes)) no_rule (λ least. on_record (passes least) bytes) (no_place (8 * length bytes) no_rule)
      (λ least. record_placed bytes (passes least) (passes_refused (Placed (8 * length bytes)) (no_place (8 * length bytes) below_rule) least))
      (least_of rule)

  check_never : (e p : ℕ) → check rule bytes ≡ refused e p → e ≢ 0
  check_never = never_zero check_numbers tt check_by

  -- 31 is the rule's
  refused_below : {p : ℕ} → check rule bytes ≡ refused below_rule p → BelowRule rule bytes
  unfolding check
  refused_below {p} h =
      own_known no_rule (λ least. on_record (passes least) bytes) (least_of rule) (λ z. absurd (omega arith)) h λ least e g.
      own_record (passes least) bytes below_rule p (omega arith) g λ r rest d q.
      pick_split (leb least (direction_bits r)) _ _ q (λ t y. not_given (sym y))
      (λ t y. record {
        at = record { least = least; known = e; value = r; reads = d ∙ ap (got r) (read_is bytes r rest d).3 };
        below = nleb→lt least (direction_bits r) t;
      })

  -- 30 is for a number that stands for nothing
  refused_none : {p : ℕ} → check rule bytes ≡ refused no_rule p → least_of rule ≡ none
  refused_none {p} h = go (least_of rule) refl
    where
      go : (o : Option ℕ) → least_of rule ≡ o → least_of rule ≡ none
      go none e = e
      go (some least) e =
          own_record (passes least) bytes no_rule p (omega arith) (sym (check_in rule bytes e) ∙ h) λ r rest d q.
          pick_split (leb least (direction_bits r)) _ _ q (λ t y. not_given (sym y)) (λ t y. let z : ◌≡◌ {A = ℕ} 31 30 = cc in absurd (omega arith))

-- ---- the answers

module _ {a : Answer} (rule : ℕ) (bytes : List ℕ) (h : a ≡ check_answer rule bytes) where
  number_is : a.number ≡ (told 0 (check rule bytes)).number
  unfolding check_answer
  number_is = ap (λ (x : Answer). x.number) h

  pub check_numbers_lem : Gives check_numbers a.number
  check_numbers_lem = rw number_is (told_number check_numbers 0 (check rule bytes) (check_by rule bytes))

  pub check_place : Placed (8 * length bytes) a.number a.place
  unfolding check_answer
  check_place = rw h (refused_shown_at (Placed (8 * length bytes)) 0 (check rule bytes) tt (check_placed rule bytes))

  -- nothing is written, whatever the answer
  pub check_length : a.length ≡ 0
  unfolding check_answer
  check_length = rw h (go (check rule bytes) refl)
    where
      go : (o : Outcome ℕ) → check rule bytes ≡ o → (told 0 o).length ≡ 0
      go (refused e p) d = refl
      go (given xs) d = ap length (given_is (sym d ∙ accepted_given (given_accepted rule bytes d)))

  pub check_accepted : a.number ≡ 0 → AcceptedCheck rule bytes
  check_accepted z = told_zero 0 (check rule bytes) (check_never rule bytes) (sym number_is ∙ z) λ xs g. given_accepted rule bytes g

  pub accepted_check : AcceptedCheck rule bytes → a.number ≡ 0
  accepted_check x = number_is ∙ ap (λ (o : Outcome ℕ). (told 0 o).number) (accepted_given x)

  pub check_below : a.number ≡ below_rule → BelowRule rule bytes
  check_below z = let (p, q) = told_own 0 (check rule bytes) (λ y. absurd (omega arith)) (sym number_is ∙ z) in refused_below rule bytes q

  pub below_check : BelowRule rule bytes → a.number ≡ below_rule
  below_check x = number_is ∙ ap (λ (o : Outcome ℕ). (told 0 o).number) (below_given x)

  pub check_unknown : a.number ≡ no_rule → NoRule rule
  check_unknown z =
      let (p, q) = told_own 0 (check rule bytes) (λ y. absurd (omega arith)) (sym number_is ∙ z) in
      none_without rule rules (refused_none rule bytes q)

  pub unknown_check : NoRule rule → a.number ≡ no_rule
  unknown_check n = number_is ∙ ap (λ (o : Outcome ℕ). (told 0 o).number) (check_none rule bytes (without_none rule rules n))

-- ---- two rules

-- what passes a rule passes each that wants no more
pub stricter : (m n : ℕ) {least more : ℕ} → least_of m ≡ some least → least_of n ≡ some more → least ≤ more → (bytes : List ℕ) {a b : Answer}
    → a ≡ check_answer n bytes → a.number ≡ 0 → b ≡ check_answer m bytes → b.number ≡ 0
stricter m n d e l bytes h z k = accepted_check m bytes k (accepted_less m n d e l bytes (check_accepted n bytes h z))

-- what passes a rule passes each with a lower number: one test over the table, computed
pub earlier : (m n : ℕ) {least : ℕ} → least_of m ≡ some least → m ≤ n → (bytes : List ℕ) {a b : Answer}
    → a ≡ check_answer n bytes → a.number ≡ 0 → b ≡ check_answer m bytes → b.number ≡ 0
earlier m n d l bytes h z =
    let x = (check_accepted n bytes h z).at in
    stricter m n d x.known (rising 0 0 rules tt m n l d x.known) bytes h z

pub second_first : (bytes : List ℕ) {a b : Answer} → a ≡ check_answer 2 bytes → a.number ≡ 0 → b ≡ check_answer 1 bytes → b.number ≡ 0
second_first = earlier 1 2 refl (omega arith)

-- rule 1 passes whatever is read
pub first_accepted : (bytes : List ℕ) {a : Answer} → a ≡ check_answer 1 bytes
    → (a.number ≡ 0 → (r : Record) × (read bytes ≡ got r [])) × ((r : Record) → read bytes ≡ got r [] → a.number ≡ 0)
first_accepted bytes h = (
  λ z. let x = check_accepted 1 bytes h z in (x.at.value, x.at.reads),
  λ r d. accepted_check 1 bytes h (record { at = record { least = 4; known = refl; value = r; reads = d }; enough = bits_least bytes d }),
)
