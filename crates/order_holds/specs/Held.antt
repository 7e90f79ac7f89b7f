-- The record that now holds, for a host that takes numbers alone: in which of the two buffers it stands, and how many bytes it has.
-- The record itself is `holds` (orders/specs/Order), by the same test.
use Rattle.std.specs.Prelude.{ℕ, List, length}
use Rattle.bits.specs.Choice.{pick}
use Rattle.orders.specs.Order.{second_holds}
use Rattle.order_holds.specs.declared.Held.{Held}

-- second is 1 where the second buffer's first bytes hold, 0 where the whole old record does
unfoldable pub held : (old second : List ℕ) (number n : ℕ) → Held
held old second number n =
    pick (second_holds second number n) (record { second = 1; length = n }) (record { second = 0; length = length old })
