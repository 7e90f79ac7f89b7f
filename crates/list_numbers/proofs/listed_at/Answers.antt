-- The view is there, and code finds its header and its blocks; each count is that of what its block reads as.
use Rattle.bits.proofs.Laws.Place.{all_bytes}
use Rattle.outcome.specs.Refusals.{bad_view}
use Rattle.find_parts.proofs.Laws.Blocks.{block_there, behind_is, lines_there}
use Rattle.list_numbers.proofs.Laws.Listing.{lines_at, index_at, segments_at, index_there, listed_is}
use Rattle.list_numbers.proofs.listed_at.Goals as goal

pub of-skeleton-requires : goal.of-skeleton-requires
of-skeleton-requires c = let here = lines_at c.requires c.blocks_at-blocks.ensures in (here.from, here.within)

pub of-index-requires : goal.of-index-requires
of-index-requires c = let here = index_at c.requires c.blocks_at-blocks.ensures in (here.from, here.within)

pub of-extended-requires : goal.of-extended-requires
of-extended-requires c = let here = segments_at c.requires c.blocks_at-blocks.ensures in (here.from, here.within)

pub pass_lines-lines-requires : goal.pass_lines-lines-requires
pass_lines-lines-requires c =
    rw c.of-skeleton.ensures (lines_there c.requires.narrow c.requires.short (lines_at c.requires c.blocks_at-blocks.ensures))

pub count_pairs-requires : goal.count_pairs-requires
count_pairs-requires c =
    rw c.of-index.ensures (index_there c.requires c.blocks_at-blocks.ensures (rw c.of-skeleton.ensures at c.pass_lines-lines.ensures))

pub pass_segments-requires : goal.pass_segments-requires
pass_segments-requires c = rw c.of-extended.ensures (block_there c.requires.short (segments_at c.requires c.blocks_at-blocks.ensures))

pub returns : goal.returns
returns c =
    let bytes = all_bytes c.args.bytes.now (λ i. (c.type_inv.bytes i).fits) in
    let found = c.blocks_at-blocks.ensures in
    record {
      is = λ v at. (
        listed_is c.count_pairs.result bytes at found (c.sure-number.ensures.0 bad_view) (c.sure-position.ensures.0 bad_view)
            (rw c.of-skeleton.ensures at c.pass_lines-lines.ensures) (rw c.of-index.ensures at c.count_pairs.ensures) (rw c.of-extended.ensures at c.pass_segments.ensures),
        behind_is at.blocks found,
      );
    }
