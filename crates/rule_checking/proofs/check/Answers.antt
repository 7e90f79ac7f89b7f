-- What is checked, as an answer.
use mathlib.Core.Path.{◌∙◌}
use Rattle.rule_checking.proofs.check.Goals as goal

pub returns : goal.returns
returns c =
    c.of.ensures ∙ c.checked.ensures
