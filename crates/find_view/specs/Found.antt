-- What finding a view answers: where it stands in an accepted record, or the refusal of every call on it.
use Rattle.std.specs.Prelude.{◌≡◌, ℕ, List, [], Result, Ok, Err}
use Rattle.bits.specs.Codec.{got}
use Rattle.outcome.specs.Outcome.{Outcome, refused}
use Rattle.outcome.specs.Why.{number}
use Rattle.outcome.specs.declared.refusal.Refused.{Refused}
use Rattle.format.specs.Record.{Record, read}
use Rattle.format.specs.Call.{on_view}
use Rattle.format.specs.Named.{Means}
use Rattle.format.specs.declared.Scale.{Scale}
use Rattle.format.specs.declared.ViewName.{ViewName}
use Rattle.find_parts.specs.Stands.{BlocksIn}
use Rattle.find_parts.specs.declared.view.Blocks.{Blocks}
use Rattle.find_view.specs.declared.FoundView.{FoundView}

-- the bytes s are a record's whose scale is c, and the blocks of the view that is named stand at x
pub record Stands (s : List ℕ) (view : ViewName) (c : Scale) (x : Blocks) : Type 0 where
  pub value : Record
  pub reads : read s ≡ got value []
  pub place : ℕ
  pub means : Means view value place
  pub scale : c ≡ value.head.scale
  pub blocks : BlocksIn value s place x

-- every call on the view is refused with the number e at the place p, whatever it asks
pub record Refuses (s : List ℕ) (view : ViewName) (e p : ℕ) : Type 0 where
  pub is : (f : ℕ → Record → Outcome ℕ) → on_view view f s ≡ refused e p

abbrev pub FindsView : List ℕ → ViewName → Result FoundView Refused → Type 0
FindsView s view (Ok f) = Stands s view f.scale f.blocks
FindsView s view (Err r) = Refuses s view (number r.why) r.place
