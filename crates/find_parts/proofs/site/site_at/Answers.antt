-- The view is there, and its lines are counted.
use Rattle.find_parts.proofs.Laws.Site.{site_is, site_lines}
use Rattle.find_parts.proofs.site.site_at.Goals as goal

pub pass_lines-passed-requires : goal.pass_lines-passed-requires
pass_lines-passed-requires c = rw c.of.ensures (site_lines c.requires)

pub returns : goal.returns
returns c = record { is = λ r i e l B. site_is (rw c.of.ensures at c.pass_lines-passed.ensures) e l B }
