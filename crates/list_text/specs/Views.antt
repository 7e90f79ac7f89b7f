-- What printing the views of a record asks: the judge has accepted its bytes s, and has found these widths and so many views.
use Rattle.std.specs.Prelude.{◌≡◌, ℕ, List, [], length}
use Rattle.bits.specs.Codec.{got}
use Rattle.format.specs.Record.{Record, read}
use Rattle.format.specs.declared.Widths.{Widths}

pub record ViewsToList (w : Widths) (count : ℕ) (s : List ℕ) : Type 0 where
  pub value : Record
  pub reads : read s ≡ got value []
  pub widths : w ≡ value.head.scale.widths
  pub views : count ≡ length value.views
