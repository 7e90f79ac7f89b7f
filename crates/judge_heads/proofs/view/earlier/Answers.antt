-- `earlier` meets its contract: the test is the one that earlier_of picks by.
use mathlib.Core.Path.{◌∙◌, sym}
use borrow.Author.Tests.{le-leb, lt-leb}
use Rattle.judge_heads.proofs.view.earlier.Goals as goal

pub returns-then-position-le10 : goal.returns-then-position-le10
returns-then-position-le10 c =
    c.wide.ensures ∙ sym (simp (le-leb _ _ c.if-position-le10.true))

pub returns : goal.returns
returns c =
    sym (simp (lt-leb _ _ c.if-position-le10.false))
