-- The enrolment rules, as one table: of each its number, and the fewest bits of a start or end direction (b) that it accepts. All else
-- goes by what a row says, so that a further rule is a further row.
use Rattle.std.specs.Prelude.{ℕ, List, [], ◌∷◌, eqb}
use Rattle.std.proofs.Math.Option.{Option, none, some}
use Rattle.bits.specs.Choice.{pick}
use Rattle.rule.specs.declared.Rule.{Rule}

-- "Rule 1 accepts b from 4, the least that clause 6.1.4 permits. Rule 2, for new enrolments, wants the recommended 64 directions, so b
-- from 6."
abbrev pub rules : List Rule
rules = record { number = 1; least = 4 } ∷ record { number = 2; least = 6 } ∷ []

-- what the row with that number accepts; none where no row has it
abbrev pub least_in : List Rule → (rule : ℕ) → Option ℕ
least_in [] rule = none
least_in (row ∷ rows) rule = pick (eqb row.number rule) (some row.least) (least_in rows rule)

abbrev pub least_of : (rule : ℕ) → Option ℕ
least_of rule = least_in rules rule
