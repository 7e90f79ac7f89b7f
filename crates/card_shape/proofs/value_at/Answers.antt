-- A value that is cut; that a whole one stands is found by the search.
use Rattle.card_shape.specs.Shape.{value_past}
use Rattle.card_shape.proofs.value_at.Goals as goal

pub returns-then-bytes-next : goal.returns-then-bytes-next
returns-then-bytes-next c = value_past c.in_ok-length.field-0.length c.in_ok-length.field-0.next c.in_ok-length.ensures c.if-bytes-next.true
