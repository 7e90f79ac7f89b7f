-- The answer that each way through a check gives: there is no such rule, the record is refused, or it is accepted and has as many bits of
-- a direction as the rule wants, or fewer.
use mathlib.Core.Path.{◌≡◌, sym, ◌∙◌}
use Prim.Native.Nat.{ℕ, ◌≤◌, ◌<◌}
use mathlib.Core.Option.{none, some}
use mathlib.Core.List.{List}
use Rattle.outcome.specs.Refusals.{no_rule, below_rule}
use Rattle.outcome.proofs.Laws.{told_refused, told_given}
use Rattle.std.specs.Prelude.{Ok, Err}
use Rattle.outcome.specs.Why.{number}
use Rattle.outcome.specs.declared.refusal.Refused.{Refused}
use Rattle.judge.specs.Judge.{Judges}
use Rattle.judge.specs.declared.Accepted.{Accepted}
use Rattle.judge.proofs.Laws.Calls.{call_refused, record_read}
use Rattle.rule.specs.Rules.{least_of}
use Rattle.rule.specs.Check.{passes, check_answer}
use Rattle.rule.proofs.Laws.Check.{check_none, check_in, accepted_given, below_given}

module _ (rule : ℕ) (s : List ℕ) where
  pub no_rule_lem : least_of rule ≡ none → record { number = no_rule; place = 0; length = 0 } ≡ check_answer rule s
  unfolding check_answer
  no_rule_lem e = sym (told_refused 0 (check_none rule s e))

  module _ {least : ℕ} (known : least_of rule ≡ some least) where
    pub refuses : {r : Refused} → Judges s (Err r) → record { number = number r.why; place = r.place; length = 0 } ≡ check_answer rule s
    unfolding check_answer
    refuses j = sym (told_refused 0 (check_in rule s known ∙ call_refused (passes least) s j))

    module _ {a : Accepted} (j : Judges s (Ok a)) where
      pub below : a.header.scale.widths.b < least → record { number = below_rule; place = 0; length = 0 } ≡ check_answer rule s
      unfolding check_answer
      below l =
          record_read j λ r d e _ _.
          sym (told_refused 0 (below_given (record { at = record { least = least; known = known; value = r; reads = d }; below = rw (← e) l })))

      pub passed : least ≤ a.header.scale.widths.b → record { number = 0; place = 0; length = 0 } ≡ check_answer rule s
      unfolding check_answer
      passed l =
          record_read j λ r d e _ _.
          sym (told_given 0 (accepted_given (record { at = record { least = least; known = known; value = r; reads = d }; enough = rw (← e) l })))
