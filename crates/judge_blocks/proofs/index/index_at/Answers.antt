-- `blocks::index::index_at` meets its contract: the block is found by `block_at`, and `judge_index` judges it by itself.
use Prim.Native.Nat.{ℕ, ◌+◌, ◌*◌}
use mathlib.Core.Path.{◌≡◌, ap}
use Rattle.bits.proofs.Laws.Reads.{known}
use Rattle.std.proofs.Common.{arith, rules}
use Rattle.std.specs.Prelude.{Ok, Err}
use Rattle.std.proofs.lemmas.Result.{err_from_is_err_and}
use Rattle.outcome.specs.Refusals.{bad_index}
use Rattle.outcome.specs.declared.refusal.Refusal.TheVariants.{BadIndex}
use Rattle.format.specs.Index.{index_block}
use Rattle.format.specs.SheetSize.{index_size}
use Rattle.judge_blocks.specs.Answers.{judged, index_dec, index_at_dec}
use Rattle.judge_blocks.proofs.Laws.Block.{block_cut, block_bad, block_good}
use Rattle.judge_blocks.proofs.index.index_at.Goals as goal

pub returns-in_err-block : goal.returns-in_err-block
unfolding index_at_dec
returns-in_err-block c =
    let p = err_from_is_err_and c.from_residual.result c.from_residual.ensures.1 in
    let h = c.in_err-block.ensures in
    rw (p.1, p.2) (rw h.0 (block_cut (index_block c.args.lines) index_size (omega arith) h.1))

pub returns-in_err-size : goal.returns-in_err-size
unfolding index_at_dec index_dec
returns-in_err-size c =
    let p = err_from_is_err_and c.from_residual-in_err-size.result c.from_residual-in_err-size.ensures.1 in
    let h : (q : ℕ) × (c.judge_index-judged.result ≡ Err q) × (c.in_err-size.field-0.0 ≡ record { why = BadIndex; place = 8 * c.in_ok-block.block.from + q }) = search rules in
    rw (p.1, p.2) (rw h.2 (block_bad (index_block c.args.lines) index_size c.in_ok-block.ensures c.of.ensures {q = h.0} (known (ap (judged bad_index _) h.1) c.judge_index-judged.ensures)))

pub returns : goal.returns
unfolding index_at_dec index_dec
returns c =
    let h : c.judge_index-judged.result ≡ Ok c.in_ok-size.size = search rules in
    block_good (index_block c.args.lines) index_size c.in_ok-block.ensures c.of.ensures (known (ap (judged bad_index _) h) c.judge_index-judged.ensures)
