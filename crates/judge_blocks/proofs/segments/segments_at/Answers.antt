-- `blocks::segments::segments_at` meets its contract: the block is found by `block_at`, and `judge_segments` judges it by itself.
use Prim.Native.Nat.{ℕ, ◌+◌, ◌*◌}
use mathlib.Core.Path.{◌≡◌, ap}
use Rattle.bits.specs.Lists.{total}
use Rattle.bits.proofs.Laws.Reads.{known}
use Rattle.std.proofs.Common.{arith, rules}
use Rattle.std.specs.Prelude.{Ok, Err}
use Rattle.std.proofs.lemmas.Result.{err_from_is_err_and}
use Rattle.outcome.specs.Refusals.{bad_segment}
use Rattle.outcome.specs.declared.refusal.Refusal.TheVariants.{BadSegment}
use Rattle.format.specs.Segments.{segments}
use Rattle.format.specs.SheetSize.{segment_size}
use Rattle.judge_blocks.specs.Answers.{judged, segments_dec, segments_at_dec}
use Rattle.judge_blocks.proofs.Laws.Block.{block_cut, block_bad, block_good}
use Rattle.judge_blocks.proofs.segments.segments_at.Goals as goal

pub returns-in_err-block : goal.returns-in_err-block
unfolding segments_at_dec
returns-in_err-block c =
    let p = err_from_is_err_and c.from_residual.result c.from_residual.ensures.1 in
    let h = c.in_err-block.ensures in
    rw (p.1, p.2) (rw h.0 (block_cut segments (total segment_size) (omega arith) h.1))

pub returns-in_err-size : goal.returns-in_err-size
unfolding segments_at_dec segments_dec
returns-in_err-size c =
    let p = err_from_is_err_and c.from_residual-in_err-size.result c.from_residual-in_err-size.ensures.1 in
    let h : (q : ℕ) × (c.judge_segments-judged.result ≡ Err q) × (c.in_err-size.field-0.0 ≡ record { why = BadSegment; place = 8 * c.in_ok-block.block.from + q }) = search rules in
    rw (p.1, p.2) (rw h.2 (block_bad segments (total segment_size) c.in_ok-block.ensures c.of.ensures {q = h.0} (known (ap (judged bad_segment _) h.1) c.judge_segments-judged.ensures)))

pub returns : goal.returns
unfolding segments_at_dec segments_dec
returns c =
    let h : c.judge_segments-judged.result ≡ Ok c.in_ok-size.size = search rules in
    block_good segments (total segment_size) c.in_ok-block.ensures c.of.ensures (known (ap (judged bad_segment _) h) c.judge_segments-judged.ensures)
