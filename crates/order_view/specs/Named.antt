-- The view that an order names: it stands there, with the count that the order was made for; or whatever is ordered is refused.
use Rattle.std.specs.Prelude.{◌≡◌, ℕ, List, [], Result, Ok, Err}
use Rattle.bits.specs.Codec.{got}
use Rattle.outcome.specs.Outcome.{refused}
use Rattle.outcome.specs.Why.{number}
use Rattle.outcome.specs.declared.refusal.Refused.{Refused}
use Rattle.format.specs.Record.{Record, read}
use Rattle.format.specs.Named.{Means}
use Rattle.format.specs.declared.ViewName.{ViewName}
use Rattle.orders.specs.Act.{Act}
use Rattle.orders.specs.Order.{order}
use Rattle.orders.specs.Pairs.{pairs}
use Rattle.find_parts.specs.Site.{SiteOf}
use Rattle.find_parts.specs.declared.site.Site.{Site}

pub record Named (s : List ℕ) (view : ViewName) (n : ℕ) (x : Site) : Type 0 where
  pub value : Record
  pub reads : read s ≡ got value []
  pub place : ℕ
  pub means : Means view value place
  pub at : SiteOf value s place x
  pub count : x.lines ≡ n

-- a single order is refused, and so is a list of pairs
pub record NotNamed (s : List ℕ) (view : ViewName) (n e p : ℕ) : Type 0 where
  pub order : (a : Act) → order (record { view = view; count = n; act = a }) s ≡ refused e p
  pub pairs : (list : List ℕ) (lent : ℕ) → pairs (record { view = view; count = n; list = list; lent = lent }) s ≡ refused e p

abbrev pub ViewNamed : List ℕ → ViewName → (n : ℕ) → Result Site Refused → Type 0
ViewNamed s view n (Ok x) = Named s view n x
ViewNamed s view n (Err r) = NotNamed s view n (number r.why) r.place
