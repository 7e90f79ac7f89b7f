-- The name of a view, as in "right index, second scan": its finger position and its view number. In an accepted record no two views have
-- the same name (`unique` in proofs/Laws/Named), so that naming a view by finger is naming it by place.
use Rattle.std.specs.Prelude.{◌≡◌, ◌≢◌, ℕ, suc, ◌<◌, Bool, ◌&&◌, List, [], ◌∷◌, length, eqb}
use Rattle.bits.specs.Choice.{pick}
use Rattle.bits.specs.Codec.{got}
use Rattle.format.specs.View.{View}
use Rattle.format.specs.Record.{Record, read}
use Rattle.format.specs.Places.{view_at}
use Rattle.format.specs.declared.ViewName.{ViewName}

-- as a call has it
abbrev pub named : (finger number : ℕ) → ViewName
named finger number = record { finger = finger; number = number }

-- as the view's header has it
abbrev pub name_of : View → ViewName
name_of v = named v.head.position v.head.number

abbrev pub same_name : ViewName → ViewName → Bool
same_name m n = eqb m.finger n.finger && eqb m.number n.number

-- the place of the first view that has the name; behind the last where none has it
abbrev pub place_in : ViewName → List View → ℕ
place_in name [] = 0
place_in name (v ∷ vs) = pick (same_name (name_of v) name) 0 (suc (place_in name vs))

-- the bytes read as a record, and no view of it has the name
pub record NoViewNamed (view : ViewName) (bytes : List ℕ) : Type 0 where
  pub value : Record
  pub reads : read bytes ≡ got value []
  pub none : (i : ℕ) → i < length value.views → name_of (view_at value i) ≢ view

-- the name `view` means view i of the record r
pub record Means (view : ViewName) (r : Record) (i : ℕ) : Type 0 where
  pub is : place_in view r.views ≡ i
  pub there : i < length r.views
