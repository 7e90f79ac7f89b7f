-- `impression_bad` meets its contract: the three tests are those of impression_ok.
use borrow.Author.Tests.{le-leb, lt-leb, eq-eqb, ne_eqb}
use Rattle.judge_heads.proofs.view.impression_bad.Goals as goal

pub returns-then-impression-le3 : goal.returns-then-impression-le3
returns-then-impression-le3 c =
    simp (le-leb _ _ c.if-impression-le3.true)

pub returns-then-impression-eq8 : goal.returns-then-impression-eq8
returns-then-impression-eq8 c =
    simp (lt-leb _ _ c.if-impression-le3.false, eq-eqb _ _ c.if-impression-eq8.true)

pub returns : goal.returns
returns c =
    simp (lt-leb _ _ c.if-impression-le3.false, ne_eqb _ _ c.if-impression-eq8.false)
