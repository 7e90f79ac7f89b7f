-- The start, the length and the filling, each with its way out; where all three are right, the values are there.
use Rattle.std.proofs.Common.{arith, ◌∙◌}
use Rattle.bits.proofs.Laws.Place.{all_bytes}
use Rattle.quality_values.proofs.Laws.Judged.{broken_start, other_size, other_filling, payload_right}
use Rattle.quality_values.proofs.judge_payload.Goals as goal

pub returns-in_err-grid : goal.returns-in_err-grid
returns-in_err-grid c =
    rw c.from_residual.ensures (broken_start c.args.image c.in_err-grid.ensures (all_bytes c.args.payload.now (λ i. (c.type_inv.payload i).fits)))

pub returns-then-payload-payload_size : goal.returns-then-payload-payload_size
returns-then-payload-payload_size c =
    other_size c.in_ok-grid.ensures (all_bytes c.args.payload.now (λ i. (c.type_inv.payload i).fits)) (λ e. omega arith)

pub returns-then-filling-ne0 : goal.returns-then-filling-ne0
returns-then-filling-ne0 c =
    let size = c.if-payload-payload_size.false ∙ c.payload_size.ensures in
    other_filling c.in_ok-grid.ensures 0 _ size (omega arith) (c.sure-filling.ensures.0 0) (all_bytes c.args.payload.now (λ i. (c.type_inv.payload i).fits)) (λ e. omega arith)

pub returns : goal.returns
returns c =
    let size = c.if-payload-payload_size.false ∙ c.payload_size.ensures in
    payload_right c.in_ok-grid.ensures 0 _ size (omega arith) (c.sure-filling.ensures.0 0) (omega arith)
