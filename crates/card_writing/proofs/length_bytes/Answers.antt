-- One way for each form of a length.
use mathlib.Core.Path.{sym, ap}
use lib.ListN.{length}
use Rattle.card.proofs.Laws.Written.{short_out, middle_out, long_out}
use Rattle.card_writing.proofs.length_bytes.Goals as goal

pub returns-then-n-lt128 : goal.returns-then-n-lt128
returns-then-n-lt128 c = record { is = sym (ap length (short_out c.args.n c.if-n-lt128.true)) }

pub returns-then-n-lt256 : goal.returns-then-n-lt256
returns-then-n-lt256 c = record { is = sym (ap length (middle_out c.args.n c.if-n-lt128.false c.if-n-lt256.true)) }

pub returns : goal.returns
returns c = record { is = sym (ap length (long_out c.args.n c.if-n-lt256.false)) }
