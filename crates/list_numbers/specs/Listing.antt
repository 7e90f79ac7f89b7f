-- The numbers of the listing: "one per view: finger name, view number, lines, neighbour pairs (a line next to itself counts as one;
-- `-` without index), segments". Each pair is written once, so a view's pairs are the entries of its index.
use Rattle.std.specs.Prelude.{ℕ, List, map, length}
use Rattle.std.proofs.Math.Option
use Rattle.std.proofs.Math.Option.{Option}
use Rattle.bits.specs.Lists.{total}
use Rattle.format.specs.View.{View}
use Rattle.format.specs.Record.{Record}
use Rattle.format.specs.Places.{count}

-- pairs: none where the view has no index
pub record Listed : Type 0 where
  pub position : ℕ
  pub number : ℕ
  pub lines : ℕ
  pub pairs : Option ℕ
  pub segments : ℕ

abbrev pub listed : View → Listed
listed v =
    record {
      position = v.head.position;
      number = v.head.number;
      lines = count v;
      pairs = Option.map (λ i. total length i.lists) v.index;
      segments = length v.segments;
    }

unfoldable pub listing : Record → List Listed
listing r = map listed r.views
