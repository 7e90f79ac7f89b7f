-- The six bytes are those of the end, and so are the four numbers put.
use mathlib.Core.Path.{◌∙◌}
use Rattle.write_blocks.proofs.Laws.Puts.{end_bytes_lem, end_put}
use Rattle.write_blocks.proofs.line.end_put.Goals as goal

pub returns : goal.returns
returns c =
    record {
      is = λ e f h.
          let (k, d, x, y) = end_bytes_lem c.args.value.now c.args.a e h in
          end_put c.args.w e (c.wide.ensures ∙ k) (c.wide-2.ensures ∙ d) (c.two_at.ensures ∙ x) (c.two_at-2.ensures ∙ y)
          c.put_bits-p.ensures c.put_bits-p-2.ensures c.put_bits-p-3.ensures c.put_bits.ensures;
    }
