-- What orders about pairs on the view that stands at x ask and answer.
use Rattle.std.specs.Prelude.{◌≡◌, ℕ, ◌<◌, Bool, List, T, Result, Ok, Err}
use Rattle.outcome.specs.Outcome.{refused, Answers}
use Rattle.outcome.specs.Why.{number}
use Rattle.outcome.specs.declared.refusal.Refused.{Refused}
use Rattle.outcome.specs.declared.Answer.{Answer}
use Rattle.format.specs.declared.ViewName.{ViewName}
use Rattle.orders.specs.Listed.{shape_ok}
use Rattle.orders.specs.Order.{order}
use Rattle.orders.specs.Called.{pair_order}
use Rattle.orders.specs.Pairs.{pairs_call, singly, in_turn, pairs}
use Rattle.find_parts.specs.declared.site.Site.{Site}
use Rattle.order_view.specs.Named.{Named}

-- the view that is named has an index; or a single order about a pair is refused, and so is a list of them
pub record NotIndexed (s : List ℕ) (view : ViewName) (n e p : ℕ) : Type 0 where
  pub pair : (a b : ℕ) (joins : Bool) → order (pair_order view n a b joins) s ≡ refused e p
  pub pairs : (list before : List ℕ) → pairs (pairs_call view n list before) s ≡ refused e p

abbrev pub ViewIndexed : List ℕ → ViewName → (n : ℕ) → Result Site Refused → Type 0
ViewIndexed s view n (Ok x) = Named s view n x × (x.index.from < x.index.to)
ViewIndexed s view n (Err r) = NotIndexed s view n (number r.why) r.place

-- some view stands there and has an index, and the list has its shape
pub record PairsThere (s : List ℕ) (x : Site) (list : List ℕ) : Type 0 where
  pub view : ViewName
  pub count : ℕ
  pub named : Named s view count x
  pub index : x.index.from < x.index.to
  pub shape : T (shape_ok list)

pub record PairsDone (s : List ℕ) (x : Site) (list before after : List ℕ) (a : Answer) : Type 0 where
  pub is : (view : ViewName) (n : ℕ) → Named s view n x → Answers (in_turn 0 (singly (pairs_call view n list before)) s) before after a
