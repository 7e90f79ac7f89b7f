-- When a call for an order is accepted: its number is 0 exactly where this holds. And when a list of pairs is refused with 25.
use Rattle.std.specs.Prelude.{◌≡◌, ℕ, ◌≤◌, not, List, [], T}
use Rattle.bits.specs.Codec.{got}
use Rattle.format.specs.Record.{Record, read, size}
use Rattle.format.specs.Places.{view_at, count}
use Rattle.format.specs.Named.{Means}
use Rattle.format.specs.declared.ViewName.{ViewName}
use Rattle.orders.specs.Act.{indexed?}
use Rattle.orders.specs.Listed.{shape_ok}
use Rattle.orders.specs.Order.{edited, Accepted}
use Rattle.orders.specs.History.{Call}

-- the bytes read as a record; the order's view is there and has the count, the order's own tests pass, and the new record is at most
-- 32,768 bytes; and the new record fits the second buffer
pub record AcceptedCall (c : Call) (bytes : List ℕ) : Type 0 where
  pub value : Record
  pub reads : read bytes ≡ got value []
  pub place : ℕ
  pub order : Accepted c.order place value
  pub room : size (edited place c.order.act value) ≤ c.lent

-- ---- a list of pairs

-- its view is there, and has the count and an index
pub record ReadyView (view : ViewName) (n : ℕ) (r : Record) : Type 0 where
  pub place : ℕ
  pub means : Means view r place
  pub count : count (view_at r place) ≡ n
  pub indexed : T (indexed? (view_at r place))

-- the bytes read as a record that has such a view, and the list is empty or has another shape
pub record BrokenPairs (view : ViewName) (n : ℕ) (list bytes : List ℕ) : Type 0 where
  pub value : Record
  pub reads : read bytes ≡ got value []
  pub ready : ReadyView view n value
  pub shape : T (not (shape_ok list))
