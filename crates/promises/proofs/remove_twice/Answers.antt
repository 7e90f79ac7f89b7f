-- What the first call leaves is what the second is lent.
use mathlib.Core.Path.{refl}
use Rattle.bits.specs.Lists.{All}
use Rattle.bits.specs.Bytes.{Byte}
use Rattle.bits.proofs.Laws.Place.{all_bytes}
use Rattle.outcome.proofs.Laws.{answer_there}
use Rattle.orders.proofs.Laws.Calls.{repeated}
use Rattle.orders.specs.Called.{removal_order}
use Rattle.promises.proofs.remove_twice.Goals as goal
use Rattle.promises.proofs.remove_twice.Lts as lts
use Rattle.promises.proofs.remove_twice.Reads as reads
use Rattle.promises.proofs.remove_twice.Tie as tie

abbrev At-After-shared_slice_known-1 : Type 0
At-After-shared_slice_known-1 = lts.After-shared_slice_known tie.the-claims reads.Pre reads.Post

lent_bytes : (c : At-After-shared_slice_known-1) → All Byte c.args.bytes.now
lent_bytes c = all_bytes c.args.bytes.now (λ i. (c.shared_slice_known-1.given i).fits)

pub returns : goal.returns
returns c =
    λ xs q l.
    let z = (answer_there c.remove-first.ensures xs q l).0 in
    let k = rw c.now_holds-record.ensures at c.remove.ensures in
    let (a, b, _) = repeated (removal_order c.args.view c.args.count c.args.lines.now) refl c.args.bytes.now (lent_bytes c.before.before.before.before.before.before.before.before.before.before.before.before.before) c.remove-first.ensures z k in
    (a, b)
