-- When a check is accepted, and when it gives 30 and 31.
use Rattle.std.specs.Prelude.{◌≡◌, ◌≢◌, ℕ, ◌≤◌, ◌<◌, List, []}
use Rattle.std.proofs.Math.Option.{some}
use Rattle.bits.specs.Lists.{All}
use Rattle.bits.specs.Codec.{got}
use Rattle.format.specs.Record.{Record, read}
use Rattle.rule.specs.Rules.{rules, least_of}
use Rattle.rule.specs.Check.{direction_bits}

-- there is such a rule, and the bytes read as a record
pub record UnderRule (rule : ℕ) (bytes : List ℕ) : Type 0 where
  pub least : ℕ
  pub known : least_of rule ≡ some least
  pub value : Record
  pub reads : read bytes ≡ got value []

-- 0: it has as many bits of a direction as the rule wants
pub record AcceptedCheck (rule : ℕ) (bytes : List ℕ) : Type 0 where
  pub at : UnderRule rule bytes
  pub enough : at.least ≤ direction_bits at.value

-- 31: it has fewer
pub record BelowRule (rule : ℕ) (bytes : List ℕ) : Type 0 where
  pub at : UnderRule rule bytes
  pub below : direction_bits at.value < at.least

-- 30: no row of the table has the number
abbrev pub NoRule : (rule : ℕ) → Type 0
NoRule rule = All (λ row. row.number ≢ rule) rules
