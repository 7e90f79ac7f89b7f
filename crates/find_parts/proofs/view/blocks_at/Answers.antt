-- Each length leads to the next block's.
use Rattle.find_parts.proofs.Laws.Blocks.{skeleton_end, index_next, index_end, extended_next, extended_end}
use Rattle.find_parts.proofs.view.blocks_at.Goals as goal

pub block_at-extended-requires : goal.block_at-extended-requires
block_at-extended-requires c =
    let pre = c.requires in
    (pre.short, extended_next pre.blocks c.block_at-skeleton.ensures c.block_at-index.ensures)

pub returns : goal.returns
returns c =
    let x = c.block_at-skeleton.ensures in
    let y = c.block_at-index.ensures in
    let z = c.block_at-extended.ensures in
    record { skeleton = x.from; index = y.from; extended = z.from; is = λ w v d B. (skeleton_end B x, index_end B x y, extended_end B x y z) }
