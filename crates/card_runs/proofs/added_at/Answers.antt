-- Below the byte before, and not.
use mathlib.Core.Path.{sym}
use lib.Dec.{ltb}
use mir.Facts.{yes_ltb, no_ltb}
use Rattle.bits.specs.ChoiceLaws.{pick_yes, pick_no}
use Rattle.card_runs.proofs.added_at.Goals as goal

pub returns-then-x-before : goal.returns-then-x-before
returns-then-x-before c = sym (pick_yes (ltb c.args.x c.args.before) _ _ (yes_ltb c.if-x-before.true))

pub returns : goal.returns
returns c = sym (pick_no (ltb c.args.x c.args.before) _ _ (no_ltb c.if-x-before.false))
