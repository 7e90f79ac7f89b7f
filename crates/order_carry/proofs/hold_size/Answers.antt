-- The size against 32,768 bytes, then against the room.
use Rattle.order_carry.proofs.Laws.Held.{size_long, size_over, size_within}
use Rattle.order_carry.proofs.hold_size.Goals as goal

pub returns-then-bytes-gt-MOST_BYTES-clause-number : goal.returns-then-bytes-gt-MOST_BYTES-clause-number
returns-then-bytes-gt-MOST_BYTES-clause-number c =
    size_long c.args.lent c.args.bytes c.if-bytes-gt-MOST_BYTES.true

pub returns-then-lent-bytes-clause-number : goal.returns-then-lent-bytes-clause-number
returns-then-lent-bytes-clause-number c =
    size_over c.args.lent c.args.bytes c.if-bytes-gt-MOST_BYTES.false c.if-lent-bytes.true

pub returns-clause-number : goal.returns-clause-number
returns-clause-number c =
    size_within c.args.lent c.args.bytes c.if-bytes-gt-MOST_BYTES.false c.if-lent-bytes.false
