-- The sheet that was read is written.
use Rattle.bits.specs.Lists.{All}
use Rattle.bits.specs.Bytes.{Byte}
use Rattle.bits.proofs.Laws.Place.{all_bytes}
use Rattle.outcome.proofs.Laws.{answer_fits}
use Rattle.sheet.specs.Sheet.{writing}
use Rattle.sheet.proofs.Laws.Calls.{write_after_read}
use Rattle.promises.proofs.Calls.{first_accepts, second_gives}
use Rattle.promises.proofs.read_then_write.Goals as goal
use Rattle.promises.proofs.read_then_write.Lts as lts
use Rattle.promises.proofs.read_then_write.Reads as reads
use Rattle.promises.proofs.read_then_write.Tie as tie

abbrev At-After-shared_slice_known-1 : Type 0
At-After-shared_slice_known-1 = lts.After-shared_slice_known tie.the-claims reads.Pre reads.Post

lent_bytes : (c : At-After-shared_slice_known-1) → All Byte c.args.bytes.now
lent_bytes c = all_bytes c.args.bytes.now (λ i. (c.shared_slice_known-1.given i).fits)

pub returns-then-first-ne0 : goal.returns-then-first-ne0
returns-then-first-ne0 c =
    λ xs q l m. first_accepts writing c.args.bytes.now (λ ys e. write_after_read c.args.bytes.now ys (lent_bytes c.before.before.before.before.before.before.before.before.before) e) c.read-first.ensures xs q l c.if-first-ne0.true

pub slice_bounds-write-end : goal.slice_bounds-write-end
slice_bounds-write-end c =
    answer_fits c.read-first.ensures

pub returns : goal.returns
returns c =
    λ xs q l m. second_gives writing c.args.bytes.now (λ ys e. write_after_read c.args.bytes.now ys (lent_bytes c.before.before.before.before.before.before.before.before.before.before.before.before.before.before) e) c.read-first.ensures xs q l c.write.ensures m
