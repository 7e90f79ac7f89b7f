-- The check of a record by a rule: "A check takes the rule's number and a record." "Refusals: 30, rule number not 1 or 2, before all
-- others; 31, b below the rule, after 12."
use Rattle.std.specs.Prelude.{ℕ, List, [], leb}
use Rattle.bits.specs.Choice.{pick}
use Rattle.outcome.specs.Refusals.{no_rule, below_rule}
use Rattle.outcome.specs.Outcome.{Outcome, refused, given, only_known, told}
use Rattle.outcome.specs.declared.Answer.{Answer}
use Rattle.format.specs.Record.{Record}
use Rattle.format.specs.Call.{on_record}
use Rattle.rule.specs.Rules.{least_of}

-- b, the bits of a start or end direction
abbrev pub direction_bits : Record → ℕ
direction_bits r = r.head.scale.widths.b

-- of a record that is read: nothing is written, so that nothing is given
abbrev pub passes : (least : ℕ) → Record → Outcome ℕ
passes least r = pick (leb least (direction_bits r)) (given []) (refused below_rule 0)

unfoldable pub check : (rule : ℕ) → List ℕ → Outcome ℕ
check rule bytes = only_known no_rule (least_of rule) λ least. on_record (passes least) bytes

-- the answer of the call, which is lent nothing to write to
unfoldable pub check_answer : (rule : ℕ) → List ℕ → Answer
check_answer rule bytes = told 0 (check rule bytes)
