-- The record that was written is read.
use Rattle.bits.specs.Lists.{All}
use Rattle.bits.specs.Bytes.{Byte}
use Rattle.bits.proofs.Laws.Place.{all_bytes}
use Rattle.outcome.proofs.Laws.{answer_fits}
use Rattle.sheet.specs.Sheet.{reading}
use Rattle.sheet.proofs.Laws.Calls.{read_after_write}
use Rattle.promises.proofs.Calls.{first_accepts, second_gives}
use Rattle.promises.proofs.write_then_read.Goals as goal
use Rattle.promises.proofs.write_then_read.Lts as lts
use Rattle.promises.proofs.write_then_read.Reads as reads
use Rattle.promises.proofs.write_then_read.Tie as tie

abbrev At-After-shared_slice_known-1 : Type 0
At-After-shared_slice_known-1 = lts.After-shared_slice_known tie.the-claims reads.Pre reads.Post

lent_bytes : (c : At-After-shared_slice_known-1) → All Byte c.args.sheet.now
lent_bytes c = all_bytes c.args.sheet.now (λ i. (c.shared_slice_known-1.given i).fits)

pub returns-then-first-ne0 : goal.returns-then-first-ne0
returns-then-first-ne0 c =
    λ xs q l m. first_accepts reading c.args.sheet.now (λ ys e. read_after_write c.args.sheet.now ys (lent_bytes c.before.before.before.before.before.before.before.before.before) e) c.write-first.ensures xs q l c.if-first-ne0.true

pub slice_bounds-read-end : goal.slice_bounds-read-end
slice_bounds-read-end c =
    answer_fits c.write-first.ensures

pub returns : goal.returns
returns c =
    λ xs q l m. second_gives reading c.args.sheet.now (λ ys e. read_after_write c.args.sheet.now ys (lent_bytes c.before.before.before.before.before.before.before.before.before.before.before.before.before.before) e) c.write-first.ensures xs q l c.read.ensures m
